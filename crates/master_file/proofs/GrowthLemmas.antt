-- How many octets an item has with a record more.
use Rattle.std.proofs.Common.{◌≡◌, ◌∙◌, ℕ, ◌+◌, ◌-◌, ◌^◌, ◌<◌, ◌≤◌, List, [], ◌∷◌, ◌++◌, length, refl, sym, ap, arith, Option, Some, None, min, length-append}
use Rattle.std.specs.List.{flat_map}
use Rattle.std.specs.Int.{w16, w32, to_be_bytes}
use Rattle.std.specs.declared.cmp.Ordering.{Ordering}
use Rattle.std.specs.declared.cmp.Ordering.TheVariants.{Less, Equal, Greater}
use Rattle.std.specs.Ordering.{nat_cmp, match_ordering}
use Rattle.zone_model.specs.Names.{Name, wire}
use Rattle.zone_model.specs.Records.{Rrset, Entry, octets_cmp, changed_at, with_record, with_rr, fresh, joined, record_bytes, rrset_bytes, item, item_limit, IsItem}
use Rattle.master_file.specs.Owned.{IsCounted}

abbrev records_len : List (List ℕ) → ℕ
records_len records = length (flat_map record_bytes records)

abbrev sets_len : Entry → ℕ
sets_len sets = length (flat_map rrset_bytes sets)

record_is : (r : List ℕ) (records : List (List ℕ)) → records_len (r ∷ records) ≡ 2 + length r + records_len records
record_is r records = omega (arith, length-append (record_bytes r) (flat_map record_bytes records), length-append (to_be_bytes w16 (length r)) r)

records_grow : (octets : List ℕ) (records : List (List ℕ)) → records_len (with_record octets records) ≤ records_len records + (2 + length octets)
records_grow octets [] = let e = record_is octets [] in omega arith
records_grow octets (first ∷ rest) = by_order (octets_cmp octets first) (records_grow octets rest)
  where
    by_order : (o : Ordering) → records_len (with_record octets rest) ≤ records_len rest + (2 + length octets)
        → records_len (match_ordering o (octets ∷ (first ∷ rest)) (first ∷ rest) (first ∷ with_record octets rest)) ≤ records_len (first ∷ rest) + (2 + length octets)
    by_order Less h = let e = record_is octets (first ∷ rest) in omega arith
    by_order Equal h = omega arith
    by_order Greater h = let e = record_is first (with_record octets rest) in let f = record_is first rest in omega arith

set_is : (s : Rrset) → length (rrset_bytes s) ≡ 8 + records_len s.records
set_is s =
    let a = length-append (to_be_bytes w16 s.rtype) (to_be_bytes w32 s.ttl ++ to_be_bytes w16 (length s.records) ++ flat_map record_bytes s.records) in
    let b = length-append (to_be_bytes w32 s.ttl) (to_be_bytes w16 (length s.records) ++ flat_map record_bytes s.records) in
    let c = length-append (to_be_bytes w16 (length s.records)) (flat_map record_bytes s.records) in
    omega (arith, a, b, c)

first_is : (s : Rrset) (rest : Entry) → sets_len (s ∷ rest) ≡ 8 + records_len s.records + sets_len rest
first_is s rest = let e = set_is s in omega (arith, length-append (rrset_bytes s) (flat_map rrset_bytes rest))

sets_grow : (t ttl : ℕ) (octets : List ℕ) (entry : Entry) → sets_len (with_rr t ttl octets entry) ≤ sets_len entry + (10 + length octets)
sets_grow t ttl octets [] = let e = first_is (fresh t ttl octets) [] in let f = record_is octets [] in omega arith
sets_grow t ttl octets (s ∷ rest) = by_order (nat_cmp t s.rtype) (sets_grow t ttl octets rest)
  where
    by_order : (o : Ordering) → sets_len (with_rr t ttl octets rest) ≤ sets_len rest + (10 + length octets)
        → sets_len (match_ordering o (joined t ttl octets None ++ (s ∷ rest)) (joined t ttl octets (Some s) ++ rest) (s ∷ with_rr t ttl octets rest)) ≤ sets_len (s ∷ rest) + (10 + length octets)
    by_order Less h = let e = first_is (fresh t ttl octets) (s ∷ rest) in let f = record_is octets [] in omega arith
    by_order Equal h = let e = first_is (record s { records = with_record octets s.records }) rest in let f = first_is s rest in let g = records_grow octets s.records in omega arith
    by_order Greater h = let e = first_is s (with_rr t ttl octets rest) in let f = first_is s rest in omega arith

item_is : (owner : Name) (entry : Entry) → length (item owner entry) ≡ length (wire owner) + 2 + sets_len entry
item_is owner entry =
    length-append (wire owner ++ to_be_bytes w16 (length entry)) (flat_map rrset_bytes entry)
    ∙ ap (λ (n : ℕ). n + sets_len entry) (length-append (wire owner) (to_be_bytes w16 (length entry)))

pub item_grows : (owner : Name) (t ttl : ℕ) (octets : List ℕ) (entry : Entry) → length (item owner (with_rr t ttl octets entry)) ≤ length (item owner entry) + (10 + length octets)
item_grows owner t ttl octets entry =
    let a = item_is owner (with_rr t ttl octets entry) in
    let b = item_is owner entry in
    let c = sets_grow t ttl octets entry in
    omega arith

-- what was counted, and is counted on
pub still_counted : (owner : Name) (t ttl : ℕ) (octets : List ℕ) (old new : Entry) (had has : ℕ) → new ≡ with_rr t ttl octets old → min (length (item owner old)) (2 ^ 64 - 1) ≤ had
    → min (had + (10 + length octets)) (2 ^ 64 - 1) ≤ has → has ≤ item_limit → IsCounted owner new has
still_counted owner t ttl octets old new had has e most now few =
    let grows = item_grows owner t ttl octets old in
    let size : length (item owner new) ≡ length (item owner (with_rr t ttl octets old)) = ap (λ (x : Entry). length (item owner x)) e in
    record { most = omega arith; long = λ l. absurd (omega arith) }

pub counted_item : (octets : List ℕ) (owner : Name) (entry : Entry) → IsItem octets owner entry → IsCounted owner entry (length octets)
counted_item octets owner entry is =
    let size = ap (λ (l : List ℕ). length l) is.octets in
    let short = is.short in
    record { most = omega arith; long = λ l. absurd (omega arith) }
