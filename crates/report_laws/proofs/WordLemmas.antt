-- Types, times and addresses that words say.
use Rattle.std.proofs.Common.{◌≡◌, ℕ, zero, suc, ◌+◌, ◌-◌, ◌/◌, ◌%◌, ◌<◌, ◌≤◌, Bool, true, false, cond, ◌&&◌, eqb, leb, ltb, eqb-true, List, [], ◌∷◌, ◌++◌, length, take, drop, map, replicate, codes, Option, Some, None, option_and_then, refl, ap, subst, arith, length-append}
use Rattle.std.proofs.lemmas.Bool.Decides.{nat_tests}
use Rattle.std.proofs.lemmas.List.{length-replicate}
use Rattle.std.proofs.lemmas.Bool.{and_parts}
use borrow.Author.Tests.{leb-true}
use Rattle.std.specs.List.{list_all, list_any, slice_split}
use Rattle.std.specs.Str.{str_eq_ignore_ascii_case}
use Rattle.std.specs.Char.{is_ascii_digit, is_ascii_hexdigit}
use Rattle.zone_model.specs.Texts.{digits_from, at_most, number, address_part, all_some, address}
use Rattle.zone_model.specs.Types.{NamedType, named_types, type_spelled}
use Rattle.zone_model.specs.DataWords.{most_time, groups, time_of, is_word, data_type, numbered, number_in, type_named, digit_value}
use Rattle.zone_model.specs.Addresses.{hex_from, group, joined, groups_of, last_group, last_groups_of, parts_of, filled, whole_address, double_at, by_double, address6}
use Rattle.zone_model.proofs.SplitLemmas.{and_some, map_some, cond_some}
use Rattle.zone_model.proofs.TypeLaws.{found_passes}
use Rattle.dns_name.proofs.BodyLemmas.{all_append}
use Rattle.report_laws.specs.Octets.{IsOctet, AllOctets}

-- ---- numbers

most_kept : (most m n : ℕ) → at_most most m ≡ Some n → n ≤ most
most_kept most m n h =
    let c = cond_some (leb m most) (Some m) n h in
    let is : m ≡ n = cc in
    subst (λ (k : ℕ). k ≤ most) is (leb-true m most c.0)

pub number_most : (most : ℕ) (text : List ℕ) (n : ℕ) → number most text ≡ Some n → n ≤ most
unfolding number
number_most most [] n h = absurd cc
number_most most (c ∷ text) n h = let a = and_some (at_most most) (digits_from 0 (c ∷ text)) n h in most_kept most a.0 n a.2

pub time_most : (text : List ℕ) (n : ℕ) → time_of text ≡ Some n → n ≤ most_time
unfolding time_of
time_most text n h = by_test (list_all is_ascii_digit text) h
  where
    by_test : (b : Bool) → cond b (number most_time text) (option_and_then (at_most most_time) (groups 0 None text)) ≡ Some n → n ≤ most_time
    by_test true k = number_most most_time text n k
    by_test false k = let a = and_some (at_most most_time) (groups 0 None text) n k in most_kept most_time a.0 n a.2

-- ---- types

-- a type that data has
pub record IsType (n : ℕ) : Type 0 where
  pub number : n ≤ 65535
  pub kind : data_type n ≡ Some n

typed : (m n : ℕ) → data_type m ≡ Some n → m ≡ n
typed m n h = by_tests (eqb m 0) (eqb m 41) (leb 128 m && leb m 255) h
  where
    by_tests : (a b c : Bool) → cond a None (cond b None (cond c None (Some m))) ≡ Some n → m ≡ n
    by_tests true b c k = absurd cc
    by_tests false true c k = absurd cc
    by_tests false false true k = absurd cc
    by_tests false false false k = cc

abbrev is_number : Option ℕ → ℕ → Bool
is_number None k = false
is_number (Some n) k = eqb n k

number_is : (o : Option ℕ) (k : ℕ) → is_number o k ≡ true → o ≡ Some k
number_is None k h = absurd cc
number_is (Some n) k h = ap Some (eqb-true n k h)

abbrev is_type : NamedType → Bool
is_type t = leb t.number 65535 && is_number (data_type t.number) t.number

all_types : list_all is_type named_types ≡ true
all_types = refl

numbered_is : (text : List ℕ) (n : ℕ) → option_and_then data_type (numbered (codes "TYPE") text) ≡ Some n → IsType n
numbered_is text n h =
    let a = and_some data_type (numbered (codes "TYPE") text) n h in
    let c = cond_some (is_word (take 4 text) (codes "TYPE")) (number 65535 (drop 4 text)) a.0 a.1 in
    let same : a.0 ≡ n = typed a.0 n a.2 in
    record { number = subst (λ (k : ℕ). k ≤ 65535) same (number_most 65535 (drop 4 text) a.0 c.1); kind = subst (λ (k : ℕ). data_type k ≡ Some n) same a.2 }

pub type_is : (text : List ℕ) (n : ℕ) → type_named text ≡ Some n → IsType n
unfolding type_named
type_is text n h = by_row (type_spelled text) refl h
  where
    by_row : (o : Option NamedType) → type_spelled text ≡ o → number_in o text ≡ Some n → IsType n
    by_row None e k = numbered_is text n k
    by_row (Some t) e k =
        let f = (found_passes is_type (λ (t : NamedType). str_eq_ignore_ascii_case text t.mnemonic) named_types t all_types e).0 in
        let g = and_parts (leb t.number 65535) (is_number (data_type t.number) t.number) f in
        let is : t.number ≡ n = cc in
        subst IsType is (record { number = leb-true t.number 65535 g.0; kind = number_is (data_type t.number) t.number g.1 })

-- ---- addresses of version 4

pub record IsAddress (size : ℕ) (octets : List ℕ) : Type 0 where
  pub bytes : AllOctets octets
  pub length : length octets ≡ size

part_small : (part : List ℕ) (n : ℕ) → address_part part ≡ Some n → n < 256
part_small part n h =
    let c = cond_some (leb (length part) 3) (number 255 part) n h in
    let le = number_most 255 part n c.1 in omega arith

parts_small : (parts : List (List ℕ)) (octets : List ℕ) → all_some (map address_part parts) ≡ Some octets → IsAddress (length parts) octets
parts_small [] octets h = let is : [] ≡ octets = cc in subst (IsAddress 0) is (record { bytes = tt; length = refl })
parts_small (part ∷ parts) octets h = by_part (parts_small parts) (address_part part) refl h
  where
    by_part : ((xs : List ℕ) → all_some (map address_part parts) ≡ Some xs → IsAddress (length parts) xs) → (o : Option ℕ) → address_part part ≡ o → all_some (o ∷ map address_part parts) ≡ Some octets → IsAddress (suc (length parts)) octets
    by_part others None e k = absurd cc
    by_part others (Some n) e k =
        let m = map_some (λ (xs : List ℕ). n ∷ xs) (all_some (map address_part parts)) octets k in
        let more = others m.0 m.1 in
        subst (IsAddress (suc (length parts))) m.2 (record { bytes = (part_small part n e, more.bytes); length = ap suc more.length })

pub address_is : (text octets : List ℕ) → address text ≡ Some octets → IsAddress 4 octets
unfolding address
address_is text octets h =
    let parts = slice_split (λ b. eqb b 46) text in
    let c = cond_some (eqb (length parts) 4) (all_some (map address_part parts)) octets h in
    subst (λ (n : ℕ). IsAddress n octets) (eqb-true (length parts) 4 c.0) (parts_small parts octets c.1)

-- ---- addresses of version 6

pub digit_small : (c : ℕ) → is_ascii_hexdigit c ≡ true → digit_value c < 16
digit_small c h = grind (arith, nat_tests)

pub all_digits : (c : ℕ) (text : List ℕ) → list_all is_ascii_hexdigit (c ∷ text) ≡ true → (digit_value c < 16) × (list_all is_ascii_hexdigit text ≡ true)
all_digits c text h = let a = and_parts (is_ascii_hexdigit c) (list_all is_ascii_hexdigit text) h in (digit_small c a.0, a.1)

hex_small : (text : List ℕ) → length text ≤ 4 → list_all is_ascii_hexdigit text ≡ true → hex_from 0 text < 65536
unfolding hex_from
hex_small [] le h = omega arith
hex_small (a ∷ []) le h = let p = (all_digits a [] h).0 in omega arith
hex_small (a ∷ b ∷ []) le h =
    let x = all_digits a (b ∷ []) h in
    let p = x.0 in
    let q = (all_digits b [] x.1).0 in omega arith
hex_small (a ∷ b ∷ c ∷ []) le h =
    let x = all_digits a (b ∷ c ∷ []) h in
    let y = all_digits b (c ∷ []) x.1 in
    let p = x.0 in
    let q = y.0 in
    let r = (all_digits c [] y.1).0 in omega arith
hex_small (a ∷ b ∷ c ∷ d ∷ []) le h =
    let x = all_digits a (b ∷ c ∷ d ∷ []) h in
    let y = all_digits b (c ∷ d ∷ []) x.1 in
    let z = all_digits c (d ∷ []) y.1 in
    let p = x.0 in
    let q = y.0 in
    let r = z.0 in
    let s = (all_digits d [] z.1).0 in omega arith
hex_small (a ∷ b ∷ c ∷ d ∷ e ∷ text) le h = absurd (omega arith)

group_small : (text octets : List ℕ) → group text ≡ Some octets → AllOctets octets
group_small text octets h =
    let c = cond_some (ltb 0 (length text) && leb (length text) 4 && list_all is_ascii_hexdigit text) (Some (hex_from 0 text / 256 ∷ hex_from 0 text % 256 ∷ [])) octets h in
    let a = and_parts (ltb 0 (length text) && leb (length text) 4) (list_all is_ascii_hexdigit text) c.0 in
    let b = and_parts (ltb 0 (length text)) (leb (length text) 4) a.0 in
    let small : hex_from 0 text < 65536 = hex_small text (leb-true (length text) 4 b.1) a.1 in
    let is : hex_from 0 text / 256 ∷ hex_from 0 text % 256 ∷ [] ≡ octets = cc in
    subst AllOctets is (omega arith, (omega arith, tt))

joined_small : (a b : Option (List ℕ)) (octets : List ℕ) → ((x : List ℕ) → a ≡ Some x → AllOctets x) → ((x : List ℕ) → b ≡ Some x → AllOctets x) → joined a b ≡ Some octets → AllOctets octets
joined_small (Some x) (Some y) octets f g h = let is : x ++ y ≡ octets = cc in subst AllOctets is (all_append IsOctet x y (f x refl) (g y refl))
joined_small None b octets f g h = absurd cc
joined_small (Some x) None octets f g h = absurd cc

groups_small : (parts : List (List ℕ)) (octets : List ℕ) → groups_of parts ≡ Some octets → AllOctets octets
unfolding groups_of
groups_small [] octets h = let is : [] ≡ octets = cc in subst AllOctets is tt
groups_small (part ∷ parts) octets h = joined_small (group part) (groups_of parts) octets (group_small part) (groups_small parts) h

last_small : (part octets : List ℕ) → last_group part ≡ Some octets → AllOctets octets
last_small part octets h = by_test (list_any (λ c. eqb c 46) part) h
  where
    by_test : (b : Bool) → cond b (address part) (group part) ≡ Some octets → AllOctets octets
    by_test true k = (address_is part octets k).bytes
    by_test false k = group_small part octets k

lasts_small : (parts : List (List ℕ)) (octets : List ℕ) → last_groups_of parts ≡ Some octets → AllOctets octets
unfolding last_groups_of
lasts_small [] octets h = let is : [] ≡ octets = cc in subst AllOctets is tt
lasts_small (part ∷ []) octets h = last_small part octets h
lasts_small (part ∷ other ∷ parts) octets h = joined_small (group part) (last_groups_of (other ∷ parts)) octets (group_small part) (lasts_small (other ∷ parts)) h

zeros_small : (n : ℕ) → AllOctets (replicate n 0)
zeros_small zero = tt
zeros_small (suc n) = (omega arith, zeros_small n)

filled_is : (front back octets : List ℕ) → AllOctets front → AllOctets back → filled front back ≡ Some octets → IsAddress 16 octets
filled_is front back octets f b h =
    let c = cond_some (leb (length front + length back) 14) (Some (front ++ replicate (16 - (length front + length back)) 0 ++ back)) octets h in
    let le : length front + length back ≤ 14 = leb-true (length front + length back) 14 c.0 in
    let zeros = replicate (16 - (length front + length back)) 0 in
    let is : front ++ zeros ++ back ≡ octets = cc in
    subst (IsAddress 16) is (record {
      bytes = all_append IsOctet (front ++ zeros) back (all_append IsOctet front zeros f (zeros_small (16 - (length front + length back)))) b;
      length = omega (arith, length-append (front ++ zeros) back, length-append front zeros, length-replicate {A = ℕ} (16 - (length front + length back)) 0);
    })

whole_is : (x octets : List ℕ) → AllOctets x → whole_address x ≡ Some octets → IsAddress 16 octets
whole_is x octets b h =
    let c = cond_some (eqb (length x) 16) (Some x) octets h in
    let is : x ≡ octets = cc in
    subst (IsAddress 16) is (record { bytes = b; length = eqb-true (length x) 16 c.0 })

double_is : (text : List ℕ) (at : Option ℕ) (octets : List ℕ) → by_double text at ≡ Some octets → IsAddress 16 octets
double_is text None octets h =
    let a = and_some whole_address (last_groups_of (parts_of text)) octets h in
    whole_is a.0 octets (lasts_small (parts_of text) a.0 a.1) a.2
double_is text (Some n) octets h =
    let back = last_groups_of (parts_of (drop (n + 2) text)) in
    let a = and_some (λ front. option_and_then (filled front) back) (groups_of (parts_of (take n text))) octets h in
    let b = and_some (filled a.0) back octets a.2 in
    filled_is a.0 b.0 octets (groups_small (parts_of (take n text)) a.0 a.1) (lasts_small (parts_of (drop (n + 2) text)) b.0 b.1) b.2

pub address6_is : (text octets : List ℕ) → address6 text ≡ Some octets → IsAddress 16 octets
unfolding address6
address6_is text octets h = double_is text (double_at text) octets h
