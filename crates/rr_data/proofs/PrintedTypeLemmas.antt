-- A printed type is read as that type, unless it is none that data has. What is said of named types is a test of the table's rows,
-- which is computed.
use Rattle.std.proofs.Common.{◌≡◌, ◌∙◌, ℕ, ◌<◌, ◌≤◌, ◌^◌, Bool, true, false, ◌&&◌, eqb, ltb, List, ◌++◌, length, codes, refl, sym, ap, arith, Option, Some, None, option_and_then, length-append}
use borrow.Author.Tests.{eqb-true, ltb-true}
use Rattle.std.specs.Fmt.{decimal}
use Rattle.std.specs.List.{list_all}
use Rattle.std.specs.Char.{is_ascii_alphanumeric}
use Rattle.zone_model.specs.Types.{NamedType, named_types, type_numbered}
use Rattle.zone_model.specs.DataWords.{data_type, type_named}
use Rattle.zone_model.specs.DataText.{type_text, mnemonic_in}
use Rattle.zone_model.specs.Grammar.{stops_word}
use Rattle.zone_model.proofs.TypeLaws.{found_passes}
use Rattle.rr_data.proofs.PrintedLemmas.{number_back}
use Rattle.rr_data.proofs.PrintedWordLemmas.{Shows, both, alphanumeric_word, decimal_word, shows_append}

-- ---- a mnemonic is read as its number, which is one of data

is_number : Option ℕ → ℕ → Bool
is_number None k = false
is_number (Some n) k = eqb n k

number_is : (o : Option ℕ) (k : ℕ) → is_number o k ≡ true → o ≡ Some k
unfolding is_number
number_is None k h = absurd cc
number_is (Some n) k h = ap Some (eqb-true n k h)

is_told : NamedType → Bool
unfolding type_named
is_told t = is_number (type_named t.mnemonic) t.number && is_number (data_type t.number) t.number

all_told : list_all is_told named_types ≡ true
unfolding is_told is_number type_named
all_told = refl

numbered_type : (n : ℕ) → n ≤ 65535 → type_named (codes "TYPE" ++ decimal n) ≡ data_type n
unfolding type_named
numbered_type n h = ap (option_and_then data_type) (number_back 65535 n (omega arith) h)

pub type_back : (n : ℕ) → n ≤ 65535 → type_named (type_text n) ≡ data_type n
unfolding is_told
type_back n h = by_row (type_numbered n) refl
  where
    by_row : (o : Option NamedType) → type_numbered n ≡ o → type_named (mnemonic_in o n) ≡ data_type n
    by_row None e = numbered_type n h
    by_row (Some t) e =
        let f = found_passes is_told (λ (t : NamedType). eqb t.number n) named_types t all_told e in
        let g = both (is_number (type_named t.mnemonic) t.number) (is_number (data_type t.number) t.number) f.0 in
        number_is (type_named t.mnemonic) t.number g.0 ∙ sym (number_is (data_type t.number) t.number g.1) ∙ ap data_type (eqb-true t.number n f.1)

-- ---- a printed type is a word of letters and digits

pub record IsTypeWord (text : List ℕ) (n : ℕ) : Type 0 where
  pub some : 0 < length text
  pub shows : Shows stops_word text

is_mnemonic : NamedType → Bool
is_mnemonic t = ltb 0 (length t.mnemonic) && list_all is_ascii_alphanumeric t.mnemonic

all_mnemonics : list_all is_mnemonic named_types ≡ true
unfolding is_mnemonic
all_mnemonics = refl

numbered_word : (n : ℕ) → n ≤ 65535 → IsTypeWord (codes "TYPE" ++ decimal n) n
numbered_word n h =
    let small : n < 2 ^ 64 = omega arith in record {
      some = omega (arith, length-append (codes "TYPE") (decimal n));
      shows = shows_append (alphanumeric_word (codes "TYPE") refl) (decimal n) (decimal_word n small);
    }

pub type_is_word : (n : ℕ) → n ≤ 65535 → IsTypeWord (type_text n) n
unfolding is_mnemonic
type_is_word n h = by_row (type_numbered n) refl
  where
    by_row : (o : Option NamedType) → type_numbered n ≡ o → IsTypeWord (mnemonic_in o n) n
    by_row None e = numbered_word n h
    by_row (Some t) e =
        let f = found_passes is_mnemonic (λ (t : NamedType). eqb t.number n) named_types t all_mnemonics e in
        let g = both (ltb 0 (length t.mnemonic)) (list_all is_ascii_alphanumeric t.mnemonic) f.0 in
        record { some = ltb-true 0 (length t.mnemonic) g.0; shows = alphanumeric_word t.mnemonic g.1 }
