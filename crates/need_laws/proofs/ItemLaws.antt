-- How many cells more an operation takes for its owner.
use Rattle.std.proofs.Common.{◌≡◌, ℕ, ◌+◌, ◌-◌, ◌/◌, ◌≤◌, Bool, true, false, cond, not, ◌&&◌, eqb, ltb, [], ◌∷◌, ◌++◌, length, length-append, Ok, Err, refl, ap, subst, arith}
use Rattle.std.specs.Prelude.{is_some, is_none}
use Rattle.std.specs.List.{flat_map}
use Rattle.std.specs.Int.{w16, to_be_bytes}
use Rattle.zone_model.specs.Names.{Name, wire}
use Rattle.zone_model.specs.Records.{Entry, rrset_of, rrset_bytes, with_rr, without_rr, without_set, item, item_limit}
use Rattle.zone_model.specs.Versions.{Addition, Operation, Add, DeleteName, DeleteSet, DeleteRecord, holds, with_soa, with_added, is_lone, is_low_soa, fitting, keeping_soa, owner_of, changed, soa_type}
use Rattle.zone_model.specs.declared.Refusal.TheVariants.{Soa, Cname, Long}
use Rattle.trie_model.specs.Extents.{cells_in}
use Rattle.job_model.specs.Needs.{item_octets, cells_added}
use Rattle.master_file.proofs.GrowthLemmas.{item_grows}
use Rattle.report_laws.proofs.EntryLemmas.{item_without, item_without_set}

pub item_length : (owner : Name) (entry : Entry) → length (item owner entry) ≡ length (wire owner) + 2 + length (flat_map rrset_bytes entry)
item_length owner entry =
    let a = length-append (wire owner ++ to_be_bytes w16 (length entry)) (flat_map rrset_bytes entry) in
    let b = length-append (wire owner) (to_be_bytes w16 (length entry)) in
    omega (arith, a, b)

-- the cells of a leaf, of a branch and of the item of what a name owns; none where it owns nothing
abbrev pub room : Name → Entry → ℕ
room owner [] = 0
room owner (s ∷ entry) = 2 + cells_in (item owner (s ∷ entry))

-- ---- numbers

fresh_cells : (x d : ℕ) → x ≤ d → (x + 15) / 16 + (x - 17) / 4080 ≤ (d + 15) / 16 + (d + 4079) / 4080
fresh_cells x d l = omega arith

more_cells : (x y d : ℕ) → x ≤ y + d → (x + 15) / 16 + (x - 17) / 4080 ≤ (y + 15) / 16 + (y - 17) / 4080 + ((d + 15) / 16 + (d + 4079) / 4080)
more_cells x y d l = omega arith

pub fewer_cells : (x y : ℕ) → x ≤ y → (x + 15) / 16 + (x - 17) / 4080 ≤ (y + 15) / 16 + (y - 17) / 4080
fewer_cells x y l = omega arith

-- ---- an addition

added_length : (a : Addition) (entry : Entry) → length (item a.owner (with_added a entry)) ≤ length (item a.owner entry) + (10 + length a.octets)
added_length a entry = by_type (eqb a.rtype soa_type)
  where
    by_soa : (b : Bool) → length (item a.owner (cond b entry (with_rr soa_type a.ttl a.octets (without_set soa_type entry)))) ≤ length (item a.owner entry) + (10 + length a.octets)
    by_soa true = omega arith
    by_soa false = let more = item_grows a.owner soa_type a.ttl a.octets (without_set soa_type entry) in let less = item_without_set a.owner soa_type entry in omega (arith, more, less)

    by_type : (b : Bool) → length (item a.owner (cond b (with_soa a.ttl a.octets entry) (with_rr a.rtype a.ttl a.octets entry))) ≤ length (item a.owner entry) + (10 + length a.octets)
    by_type true = by_soa (holds soa_type a.octets entry)
    by_type false = item_grows a.owner a.rtype a.ttl a.octets entry

added_room : (a : Addition) (before next : Entry) → length (item a.owner next) ≤ length (item a.owner before) + (10 + length a.octets) → room a.owner next - room a.owner before ≤ cells_added (Add a)
added_room a before [] l = omega arith
added_room a [] (s ∷ next) l =
    let c = fresh_cells (length (item a.owner (s ∷ next))) (item_octets a) (omega (arith, l, item_length a.owner [])) in omega (arith, c)
added_room a (t ∷ before) (s ∷ next) l =
    let c = more_cells (length (item a.owner (s ∷ next))) (length (item a.owner (t ∷ before))) (item_octets a) (omega (arith, l)) in omega (arith, c)

-- ---- a deletion

lost_room : (owner : Name) (before next : Entry) → (before ≡ [] → next ≡ []) → length (item owner next) ≤ length (item owner before) → room owner next - room owner before ≤ 0
lost_room owner before [] none l = omega arith
lost_room owner [] (s ∷ next) none l = let bad : s ∷ next ≡ [] = none refl in absurd cc
lost_room owner (t ∷ before) (s ∷ next) none l =
    let c = fewer_cells (length (item owner (s ∷ next))) (length (item owner (t ∷ before))) l in omega (arith, c)

-- ---- an operation

fits : (owner : Name) (joined next : Entry) → fitting owner joined ≡ Ok next → joined ≡ next
fits owner joined next e = by_lone (is_lone joined) e
  where
    by_length : (b : Bool) → cond b (Err Long) (Ok joined) ≡ Ok next → joined ≡ next
    by_length true h = absurd cc
    by_length false h = cc

    by_lone : (b : Bool) → cond (not b) (Err Cname) (cond (ltb item_limit (length (item owner joined))) (Err Long) (Ok joined)) ≡ Ok next → joined ≡ next
    by_lone true h = by_length (ltb item_limit (length (item owner joined))) h
    by_lone false h = absurd cc

keeps : (before left next : Entry) → keeping_soa before left ≡ Ok next → left ≡ next
keeps before left next e = by_soa (is_some (rrset_of soa_type before) && is_none (rrset_of soa_type left)) e
  where
    by_soa : (b : Bool) → cond b (Err Soa) (Ok left) ≡ Ok next → left ≡ next
    by_soa true h = absurd cc
    by_soa false h = cc

pub operation_room : (origin : Name) (operation : Operation) (before next : Entry) → changed origin operation before ≡ Ok next → room (owner_of operation) next - room (owner_of operation) before ≤ cells_added operation
operation_room origin (Add a) before next e = by_low (is_low_soa origin a) e
  where
    by_low : (b : Bool) → cond b (Err Soa) (fitting a.owner (with_added a before)) ≡ Ok next → room a.owner next - room a.owner before ≤ cells_added (Add a)
    by_low true h = absurd cc
    by_low false h = subst (λ (x : Entry). room a.owner x - room a.owner before ≤ cells_added (Add a)) (fits a.owner (with_added a before) next h) (added_room a before (with_added a before) (added_length a before))
operation_room origin (DeleteName owner) before next e =
    subst (λ (x : Entry). room owner x - room owner before ≤ 0) (keeps before [] next e) (omega arith)
operation_room origin (DeleteSet owner rtype) before next e =
    subst (λ (x : Entry). room owner x - room owner before ≤ 0) (keeps before (without_set rtype before) next e)
    (lost_room owner before (without_set rtype before) (λ none. ap (without_set rtype) none) (item_without_set owner rtype before))
operation_room origin (DeleteRecord owner rtype octets) before next e =
    subst (λ (x : Entry). room owner x - room owner before ≤ 0) (keeps before (without_rr rtype octets before) next e)
    (lost_room owner before (without_rr rtype octets before) (λ none. ap (without_rr rtype octets) none) (item_without owner rtype octets before))
