-- No printed number, name or record has a line feed inside.
use Rattle.std.proofs.Common.{◌≡◌, ℕ, zero, suc, ◌+◌, ◌/◌, ◌%◌, ◌<◌, ◌≤◌, Bool, true, false, cond, ◌&&◌, ◌||◌, eqb, ltb, leb, List, [], ◌∷◌, ◌++◌, length, Option, Some, None, unwrap_or, option_and_then, option_map, refl, subst, arith, codes}
use Rattle.std.proofs.lemmas.Bool.Decides.{nat_tests}
use Rattle.std.specs.List.{list_all, flat_map}
use Rattle.std.specs.Int.{w16, w32, from_be_bytes}
use Rattle.std.specs.Fmt.{decimal, digits, digits_onto, digit_glyph}
use Rattle.zone_model.specs.Names.{Name, Label}
use Rattle.zone_model.specs.NameText.{text_of, label_text, octet_text, is_special, three_digits}
use Rattle.zone_model.specs.Splits.{split_octets, split_name}
use Rattle.zone_model.specs.Types.{Field, NameField, ShortField, NumberField, TimeField, AddressField, Address6Field, Form, Fields, Strings, NamedType, named_types, type_numbered, form_of}
use Rattle.zone_model.specs.DataForms.{split_time}
use Rattle.zone_model.specs.DataText.{mnemonic_in, type_text, address_text, hex_digit, digit_at, group_text, groups_text, field_text, fields_text, string_octet, string_text, quoted_text, strings_text, hex_text, generic_text, formed_text, typed_text, data_text}
use Rattle.zone_model.proofs.TypeLaws.{found_passes}
use Rattle.report_laws.proofs.CutLemmas.{other_than, Free, free_append, free_above, free_map}

-- ---- numbers

digit_above : (stop d : ℕ) → stop < 48 → stop < digit_glyph false d
digit_above stop d h = by_test (ltb d 10)
  where
    by_test : (b : Bool) → stop < cond b (48 + d) (87 + d)
    by_test true = omega arith
    by_test false = omega arith

digits_free : (stop k n : ℕ) (acc : List ℕ) → stop < 48 → Free stop acc → Free stop (digits_onto k 10 false n acc)
digits_free stop zero n acc h f = f
digits_free stop (suc k) n acc h f =
    let now = free_above stop (digit_glyph false (n % 10)) acc (digit_above stop (n % 10) h) f in
    by_test (eqb (n / 10) 0) now (digits_free stop k (n / 10) (digit_glyph false (n % 10) ∷ acc) h now)
  where
    by_test : (b : Bool) → Free stop (digit_glyph false (n % 10) ∷ acc) → Free stop (digits_onto k 10 false (n / 10) (digit_glyph false (n % 10) ∷ acc))
        → Free stop (cond b (digit_glyph false (n % 10) ∷ acc) (digits_onto k 10 false (n / 10) (digit_glyph false (n % 10) ∷ acc)))
    by_test true now more = now
    by_test false now more = more

digits_are : (n : ℕ) → digits_onto 64 10 false n [] ≡ decimal n
unfolding digits
digits_are n = refl

-- neither a line feed nor a space stands among digits
pub decimal_free : (stop n : ℕ) → stop < 48 → Free stop (decimal n)
decimal_free stop n h = subst (λ (l : List ℕ). Free stop l) (digits_are n) (digits_free stop 64 n [] h refl)

three_free : (c : ℕ) → Free 10 (92 ∷ three_digits c)
three_free c =
    free_above 10 92 (three_digits c) (omega arith)
    (free_above 10 (c / 100 + 48) ((c / 10 % 10 + 48) ∷ (c % 10 + 48) ∷ []) (omega arith)
    (free_above 10 (c / 10 % 10 + 48) ((c % 10 + 48) ∷ []) (omega arith) (free_above 10 (c % 10 + 48) [] (omega arith) refl)))

pub spaced_free : (a b c : List ℕ) → Free 10 a → Free 10 b → Free 10 c → Free 10 (a ++ b ++ c)
spaced_free a b c f g h = free_append 10 (a ++ b) c (free_append 10 a b f g) h

-- ---- names

special_above : (c : ℕ) → is_special c ≡ true → 10 < c
special_above c h = grind (arith, nat_tests)

shown_above : (least c : ℕ) → 10 ≤ least → (ltb least c && ltb c 127) ≡ true → 10 < c
shown_above least c l h = grind (arith, nat_tests)

octet_free : (c : ℕ) → Free 10 (octet_text c)
octet_free c = by_tests (is_special c) (ltb 32 c && ltb c 127) refl refl
  where
    by_tests : (a b : Bool) → is_special c ≡ a → (ltb 32 c && ltb c 127) ≡ b → Free 10 (cond a (92 ∷ c ∷ []) (cond b (c ∷ []) (92 ∷ three_digits c)))
    by_tests true b p q = free_above 10 92 (c ∷ []) (omega arith) (free_above 10 c [] (special_above c p) refl)
    by_tests false true p q = free_above 10 c [] (shown_above 32 c (omega arith) q) refl
    by_tests false false p q = three_free c

label_free : (label : Label) → Free 10 (label_text label)
label_free label = free_append 10 (flat_map octet_text label) (46 ∷ []) (free_map 10 octet_text octet_free label) refl

pub name_free : (name : Name) → Free 10 (text_of name)
name_free [] = refl
name_free (label ∷ labels) = free_map 10 label_text label_free (label ∷ labels)

-- ---- types

pub type_free : (rtype : ℕ) → Free 10 (type_text rtype)
type_free rtype = by_row (type_numbered rtype) refl
  where
    by_row : (o : Option NamedType) → type_numbered rtype ≡ o → Free 10 (mnemonic_in o rtype)
    by_row None e = free_append 10 (codes "TYPE") (decimal rtype) refl (decimal_free 10 rtype (omega arith))
    by_row (Some t) e = (found_passes (λ (t : NamedType). list_all (other_than 10) t.mnemonic) (λ (t : NamedType). eqb t.number rtype) named_types t refl e).0

-- ---- addresses

hex_above : (n : ℕ) → 10 < hex_digit n
hex_above n = by_test (ltb n 10)
  where
    by_test : (b : Bool) → 10 < cond b (48 + n) (87 + n)
    by_test true = omega arith
    by_test false = omega arith

place_free : (place n : ℕ) → Free 10 (digit_at place n)
place_free place n = by_test (leb place n)
  where
    by_test : (b : Bool) → Free 10 (cond b (hex_digit (n / place % 16) ∷ []) [])
    by_test true = free_above 10 (hex_digit (n / place % 16)) [] (hex_above (n / place % 16)) refl
    by_test false = refl

group_free : (n : ℕ) → Free 10 (group_text n)
group_free n =
    free_append 10 (digit_at 4096 n ++ digit_at 256 n ++ digit_at 16 n) (hex_digit (n % 16) ∷ [])
    (free_append 10 (digit_at 4096 n ++ digit_at 256 n) (digit_at 16 n) (free_append 10 (digit_at 4096 n) (digit_at 256 n) (place_free 4096 n) (place_free 256 n)) (place_free 16 n))
    (free_above 10 (hex_digit (n % 16)) [] (hex_above (n % 16)) refl)

groups_free : (octets : List ℕ) → Free 10 (groups_text octets)
groups_free [] = refl
groups_free (a ∷ []) = refl
groups_free (a ∷ b ∷ []) = group_free (from_be_bytes w16 (a ∷ b ∷ []))
groups_free (a ∷ b ∷ next ∷ rest) =
    spaced_free (group_text (from_be_bytes w16 (a ∷ b ∷ []))) (codes ":") (groups_text (next ∷ rest)) (group_free (from_be_bytes w16 (a ∷ b ∷ []))) refl (groups_free (next ∷ rest))

address_free : (octets : List ℕ) → Free 10 (address_text octets)
address_free [] = refl
address_free (octet ∷ []) = decimal_free 10 octet (omega arith)
address_free (octet ∷ next ∷ rest) =
    spaced_free (decimal octet) (codes ".") (address_text (next ∷ rest)) (decimal_free 10 octet (omega arith)) refl (address_free (next ∷ rest))

-- ---- fields

-- a text, if there is one; one with octets behind it
abbrev IfFree : Option (List ℕ) → Type 0
IfFree None = Unit {0}
IfFree (Some text) = Free 10 text

abbrev IfFirstFree : Option (List ℕ × List ℕ) → Type 0
IfFirstFree None = Unit {0}
IfFirstFree (Some x) = Free 10 x.0

first_free : {A : Type 0} (f : A → List ℕ) → ((a : A) → Free 10 (f a)) → (o : Option (A × List ℕ)) → IfFirstFree (option_map (λ x. (f x.0, x.1)) o)
first_free f free None = tt
first_free f free (Some x) = free x.0

pub field_free : (field : Field) (octets : List ℕ) → IfFirstFree (field_text None field octets)
field_free NameField octets = first_free text_of name_free (split_name octets)
field_free ShortField octets = first_free (λ (x : List ℕ). decimal (from_be_bytes w16 x)) (λ (x : List ℕ). decimal_free 10 (from_be_bytes w16 x) (omega arith)) (split_octets 2 octets)
field_free NumberField octets = first_free (λ (x : List ℕ). decimal (from_be_bytes w32 x)) (λ (x : List ℕ). decimal_free 10 (from_be_bytes w32 x) (omega arith)) (split_octets 4 octets)
field_free TimeField octets = first_free (λ (x : List ℕ). decimal (from_be_bytes w32 x)) (λ (x : List ℕ). decimal_free 10 (from_be_bytes w32 x) (omega arith)) (split_time octets)
field_free AddressField octets = first_free address_text address_free (split_octets 4 octets)
field_free Address6Field octets = first_free groups_text groups_free (split_octets 16 octets)

last_free : (o : Option (List ℕ × List ℕ)) → IfFirstFree o → IfFree (option_and_then (λ x. cond (eqb (length x.1) 0) (Some x.0) None) o)
last_free None f = tt
last_free (Some x) f = by_test (eqb (length x.1) 0)
  where
    by_test : (b : Bool) → IfFree (cond b (Some x.0) None)
    by_test true = f
    by_test false = tt

joined_free : (o : Option (List ℕ)) (front : List ℕ) → Free 10 front → IfFree o → IfFree (option_map (λ t. front ++ codes " " ++ t) o)
joined_free None front f g = tt
joined_free (Some t) front f g = spaced_free front (codes " ") t f refl g

more_free : (o : Option (List ℕ × List ℕ)) (more : List ℕ → Option (List ℕ)) → IfFirstFree o → ((rest : List ℕ) → IfFree (more rest)) → IfFree (option_and_then (λ x. option_map (λ t. x.0 ++ codes " " ++ t) (more x.1)) o)
more_free None more f g = tt
more_free (Some x) more f g = joined_free (more x.1) x.0 f (g x.1)

fields_free : (fields : List Field) (octets : List ℕ) → IfFree (fields_text None fields octets)
unfolding fields_text
fields_free [] octets = tt
fields_free (field ∷ []) octets = last_free (field_text None field octets) (field_free field octets)
fields_free (field ∷ next ∷ fields) octets = more_free (field_text None field octets) (fields_text None (next ∷ fields)) (field_free field octets) (λ (rest : List ℕ). fields_free (next ∷ fields) rest)

-- ---- strings

string_octet_free : (c : ℕ) → Free 10 (string_octet c)
string_octet_free c = by_tests (eqb c 34 || eqb c 92) (ltb 31 c && ltb c 127) refl refl
  where
    by_tests : (a b : Bool) → (eqb c 34 || eqb c 92) ≡ a → (ltb 31 c && ltb c 127) ≡ b → Free 10 (cond a (92 ∷ c ∷ []) (cond b (c ∷ []) (92 ∷ three_digits c)))
    by_tests true b p q = free_above 10 92 (c ∷ []) (omega arith) (free_above 10 c [] (grind (arith, nat_tests)) refl)
    by_tests false true p q = free_above 10 c [] (shown_above 31 c (omega arith) q) refl
    by_tests false false p q = three_free c

quoted_free : (octets : List ℕ) → Free 10 (quoted_text octets)
quoted_free octets =
    free_above 10 34 (string_text octets ++ 34 ∷ []) (omega arith) (free_append 10 (string_text octets) (34 ∷ []) (free_map 10 string_octet string_octet_free octets) refl)

string_free : (o : Option (List ℕ × List ℕ)) (more : List ℕ → Option (List ℕ)) → ((rest : List ℕ) → IfFree (more rest))
    → IfFree (option_and_then (λ x. cond (eqb (length x.1) 0) (Some (quoted_text x.0)) (option_map (λ t. quoted_text x.0 ++ codes " " ++ t) (more x.1))) o)
string_free None more g = tt
string_free (Some x) more g = by_test (eqb (length x.1) 0)
  where
    by_test : (b : Bool) → IfFree (cond b (Some (quoted_text x.0)) (option_map (λ t. quoted_text x.0 ++ codes " " ++ t) (more x.1)))
    by_test true = quoted_free x.0
    by_test false = joined_free (more x.1) (quoted_text x.0) (quoted_free x.0) (g x.1)

strings_free : (left : ℕ) (octets : List ℕ) → IfFree (strings_text left octets)
unfolding strings_text
strings_free left [] = tt
strings_free zero (n ∷ rest) = tt
strings_free (suc left) (n ∷ rest) = string_free (split_octets n rest) (strings_text left) (λ (rest : List ℕ). strings_free left rest)

-- ---- data

hex_free : (octet : ℕ) → Free 10 (hex_text octet)
hex_free octet = free_above 10 (hex_digit (octet / 16)) (hex_digit (octet % 16) ∷ []) (hex_above (octet / 16)) (free_above 10 (hex_digit (octet % 16)) [] (hex_above (octet % 16)) refl)

generic_free : (octets : List ℕ) → Free 10 (generic_text octets)
generic_free octets =
    spaced_free (codes "\\# ") (decimal (length octets)) (cond (eqb (length octets) 0) [] (codes " " ++ flat_map hex_text octets)) refl (decimal_free 10 (length octets) (omega arith)) (by_test (eqb (length octets) 0))
  where
    by_test : (b : Bool) → Free 10 (cond b [] (codes " " ++ flat_map hex_text octets))
    by_test true = refl
    by_test false = free_append 10 (codes " ") (flat_map hex_text octets) refl (free_map 10 hex_text hex_free octets)

formed_free : (form : Option Form) (octets : List ℕ) → IfFree (formed_text None form octets)
formed_free None octets = tt
formed_free (Some (Fields fields)) octets = fields_free fields octets
formed_free (Some Strings) octets = strings_free (length octets) octets

or_free : (o : Option (List ℕ)) (text : List ℕ) → IfFree o → Free 10 text → Free 10 (unwrap_or o text)
or_free None text f g = g
or_free (Some t) text f g = f

pub data_free : (rtype : ℕ) (octets : List ℕ) → Free 10 (data_text rtype octets)
data_free rtype octets = or_free (typed_text None rtype octets) (generic_text octets) (formed_free (form_of rtype) octets) (generic_free octets)
