-- What is left of an entry when something is taken out has no more octets.
use Rattle.std.proofs.Common.{◌≡◌, ◌∙◌, ℕ, ◌+◌, ◌≤◌, Bool, true, false, cond, eqb, List, [], ◌∷◌, ◌++◌, length, Option, Some, None, refl, sym, ap, subst, arith, length-append}
use Rattle.std.proofs.lemmas.Grind.{flat_map-append}
use Rattle.std.specs.List.{flat_map}
use Rattle.std.specs.Int.{w16, w32, to_be_bytes}
use Rattle.std.specs.declared.cmp.Ordering.{Ordering}
use Rattle.std.specs.declared.cmp.Ordering.TheVariants.{Less, Equal, Greater}
use Rattle.std.specs.Ordering.{nat_cmp, match_ordering}
use Rattle.zone_model.specs.Names.{Name, wire}
use Rattle.zone_model.specs.Records.{Rrset, Entry, octets_cmp, changed_at, without_record, lessened, without_set, without_rr, record_bytes, rrset_bytes, item}

-- ---- records

shorter_by : (o : Ordering) (first : List ℕ) (rest less : List (List ℕ)) → length (flat_map record_bytes less) ≤ length (flat_map record_bytes rest)
    → length (flat_map record_bytes (match_ordering o (first ∷ rest) rest (first ∷ less))) ≤ length (flat_map record_bytes (first ∷ rest))
shorter_by Less first rest less l = omega arith
shorter_by Equal first rest less l = omega (arith, length-append (record_bytes first) (flat_map record_bytes rest))
shorter_by Greater first rest less l = omega (arith, l, length-append (record_bytes first) (flat_map record_bytes rest), length-append (record_bytes first) (flat_map record_bytes less))

fewer_records : (octets : List ℕ) (records : List (List ℕ)) → length (flat_map record_bytes (without_record octets records)) ≤ length (flat_map record_bytes records)
fewer_records octets [] = omega arith
fewer_records octets (first ∷ rest) = shorter_by (octets_cmp octets first) first rest (without_record octets rest) (fewer_records octets rest)

-- ---- RRsets

-- as many RRsets or fewer, and as many octets or fewer
abbrev pub IsLess : List Rrset → List Rrset → Type 0
IsLess less more = (length less ≤ length more) × (length (flat_map rrset_bytes less) ≤ length (flat_map rrset_bytes more))

set_length : (s : Rrset) → length (rrset_bytes s) ≡ 8 + length (flat_map record_bytes s.records)
set_length s =
    let a = length-append (to_be_bytes w16 s.rtype) (to_be_bytes w32 s.ttl ++ to_be_bytes w16 (length s.records) ++ flat_map record_bytes s.records) in
    let b = length-append (to_be_bytes w32 s.ttl) (to_be_bytes w16 (length s.records) ++ flat_map record_bytes s.records) in
    let c = length-append (to_be_bytes w16 (length s.records)) (flat_map record_bytes s.records) in
    omega (arith, a, b, c)

one_set : (s : Rrset) → length (flat_map rrset_bytes (s ∷ [])) ≡ length (rrset_bytes s)
one_set s = let e = length-append (rrset_bytes s) (flat_map rrset_bytes []) in omega (arith, e)

lessened_set : (octets : List ℕ) (s : Rrset) → IsLess (lessened octets (Some s)) (s ∷ [])
lessened_set octets s = by_test (eqb (length (without_record octets s.records)) 0)
  where
    left : Rrset
    left = record s { records = without_record octets s.records }

    by_test : (b : Bool) → IsLess (cond b [] (record s { records = without_record octets s.records } ∷ [])) (s ∷ [])
    by_test true = (omega arith, omega arith)
    by_test false = (omega arith, omega (arith, one_set s, one_set (record s { records = without_record octets s.records }), set_length s, set_length (record s { records = without_record octets s.records }), fewer_records octets s.records))

-- ---- entries

by_order : (o : Ordering) (change : Option Rrset → List Rrset) (first : Rrset) (rest less : List Rrset) → change None ≡ [] → IsLess (change (Some first)) (first ∷ []) → IsLess less rest
    → IsLess (match_ordering o (change None ++ (first ∷ rest)) (change (Some first) ++ rest) (first ∷ less)) (first ∷ rest)
by_order Less change first rest less none one l = subst (λ (c : List Rrset). IsLess (c ++ (first ∷ rest)) (first ∷ rest)) (sym none) (omega arith, omega arith)
by_order Equal change first rest less none one l = (
  omega (arith, one.0, length-append (change (Some first)) rest),
  omega (arith, one.1, ap (λ (l : List ℕ). length l) (flat_map-append rrset_bytes (change (Some first)) rest), length-append (flat_map rrset_bytes (change (Some first))) (flat_map rrset_bytes rest), one_set first, length-append (rrset_bytes first) (flat_map rrset_bytes rest)),
)
by_order Greater change first rest less none one l = (
  omega (arith, l.0),
  omega (arith, l.1, length-append (rrset_bytes first) (flat_map rrset_bytes rest), length-append (rrset_bytes first) (flat_map rrset_bytes less)),
)

changed_less : (rtype : ℕ) (change : Option Rrset → List Rrset) (entry : Entry) → change None ≡ [] → ((s : Rrset) → IsLess (change (Some s)) (s ∷ [])) → IsLess (changed_at rtype change entry) entry
changed_less rtype change [] none one = subst (λ (c : List Rrset). IsLess c []) (sym none) (omega arith, omega arith)
changed_less rtype change (first ∷ rest) none one = by_order (nat_cmp rtype first.rtype) change first rest (changed_at rtype change rest) none (one first) (changed_less rtype change rest none one)

pub set_less : (rtype : ℕ) (entry : Entry) → IsLess (without_set rtype entry) entry
set_less rtype entry = changed_less rtype (λ (s : Option Rrset). []) entry refl (λ s. (omega arith, omega arith))

pub record_less : (rtype : ℕ) (octets : List ℕ) (entry : Entry) → IsLess (without_rr rtype octets entry) entry
record_less rtype octets entry = changed_less rtype (lessened octets) entry refl (lessened_set octets)

item_length : (owner : Name) (entry : Entry) → length (item owner entry) ≡ length (wire owner) + 2 + length (flat_map rrset_bytes entry)
item_length owner entry =
    length-append (wire owner ++ to_be_bytes w16 (length entry)) (flat_map rrset_bytes entry) ∙ ap (λ (n : ℕ). n + length (flat_map rrset_bytes entry)) (length-append (wire owner) (to_be_bytes w16 (length entry)))

pub item_less : (owner : Name) (less more : Entry) → IsLess less more → length (item owner less) ≤ length (item owner more)
item_less owner less more l = let octets = l.1 in omega (arith, item_length owner less, item_length owner more, octets)
