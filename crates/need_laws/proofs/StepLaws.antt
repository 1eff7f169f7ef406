-- The cells of a version after operations and transactions.
use Rattle.std.proofs.Common.{◌≡◌, ◌+◌, ◌≤◌, Bool, true, false, cond, List, [], ◌∷◌, Result, Ok, Err, refl, sym, ap, subst, arith}
use Rattle.std.specs.List.{AllByRecursion}
use Rattle.zone_model.specs.Names.{Name}
use Rattle.zone_model.specs.Records.{Entry}
use Rattle.zone_model.specs.Versions.{Version, Operation, owned, put, owner_of, changed, and_then, apply, all_applied}
use Rattle.zone_model.specs.Transactions.{Transaction, all_met, whole}
use Rattle.zone_model.specs.declared.Refusal.{Refusal}
use Rattle.zone_model.specs.declared.Refusal.TheVariants.{Prereq}
use Rattle.zone_answer.specs.Standing.{IsStorable, IsVersion}
use Rattle.job_model.specs.Sizes.{cell_count}
use Rattle.job_model.specs.Needs.{cells_added, cells_of_operations}
use Rattle.job_model.specs.Outcomes.{accepted_or, after}
use Rattle.report_laws.specs.Changes.{IsSaid, AllSaid}
use Rattle.report_laws.proofs.WellFormedLemmas.{IsOwned}
use Rattle.report_laws.proofs.ChangeLemmas.{IsZone, zone_whole, applied}
use Rattle.need_laws.proofs.ItemLaws.{operation_room}
use Rattle.need_laws.proofs.PlaceLaws.{put_cells}

items_of : (origin : Name) (version : Version) → AllByRecursion (IsOwned origin) version → AllByRecursion IsStorable version
items_of origin [] h = tt
items_of origin (pair ∷ rest) h = (h.0.item, items_of origin rest h.1)

pub version_of_zone : (origin : Name) (version : Version) → IsZone origin version → IsVersion version
version_of_zone origin version z = record { rising = z.well_formed.rising; items = items_of origin version z.well_formed.each }

-- ---- one operation

cells_applied : (origin : Name) (operation : Operation) (version next : Version) → IsSaid origin operation → IsZone origin version → apply origin operation version ≡ Ok next → cell_count next ≤ cell_count version + cells_added operation
cells_applied origin operation version next said z e = by_result (changed origin operation (owned owner version)) refl e
  where
    owner : Name
    owner = owner_of operation

    by_result : (r : Result Entry Refusal) → changed origin operation (owned owner version) ≡ r → and_then r (λ entry. Ok (put owner entry version)) ≡ Ok next → cell_count next ≤ cell_count version + cells_added operation
    by_result (Err refusal) c h = absurd cc
    by_result (Ok entry) c h =
        let is : put owner entry version ≡ next = cc in
        let w = subst IsVersion (sym is) (version_of_zone origin next (applied origin operation version next said z e)) in
        let l = put_cells owner entry version (version_of_zone origin version z) w in
        let r = operation_room origin operation (owned owner version) entry c in
        let s = ap cell_count is in
        omega (arith, l, r, s)

-- ---- operations, one behind another

pub all_cells : (origin : Name) (operations : List Operation) (version next : Version) → AllByRecursion (IsSaid origin) operations → IsZone origin version → all_applied origin operations version ≡ Ok next → cell_count next ≤ cell_count version + cells_of_operations operations
all_cells origin [] version next said z e = let is : version ≡ next = cc in let s = ap cell_count is in omega (arith, s)
all_cells origin (first ∷ rest) version next said z e = by_result (λ (v : Version). all_cells origin rest v next said.1) (apply origin first version) refl e
  where
    by_result : ((v : Version) → IsZone origin v → all_applied origin rest v ≡ Ok next → cell_count next ≤ cell_count v + cells_of_operations rest) → (r : Result Version Refusal) → apply origin first version ≡ r → and_then r (all_applied origin rest) ≡ Ok next
        → cell_count next ≤ cell_count version + (cells_added first + cells_of_operations rest)
    by_result others (Err refusal) a h = absurd cc
    by_result others (Ok v) a h =
        let l = cells_applied origin first version v said.0 z a in
        let m = others v (applied origin first version v said.0 z a) h in
        omega (arith, l, m)

-- ---- a transaction

whole_cells : (origin : Name) (t : Transaction) (version next : Version) → AllSaid origin t → IsZone origin version → whole origin t version ≡ Ok next → cell_count next ≤ cell_count version + cells_of_operations t.operations
whole_cells origin t version next said z e = by_needs (all_met version t.needs) e
  where
    by_needs : (b : Bool) → cond b (all_applied origin t.operations version) (Err Prereq) ≡ Ok next → cell_count next ≤ cell_count version + cells_of_operations t.operations
    by_needs true h = all_cells origin t.operations version next said z h
    by_needs false h = absurd cc

-- what a transaction leaves, also where it is refused: a zone, and its cells

pub zone_behind : (origin : Name) (t : Transaction) (version : Version) → AllSaid origin t → IsZone origin version → IsZone origin (after origin t version)
zone_behind origin t version said z = by_result (whole origin t version) refl
  where
    by_result : (r : Result Version Refusal) → whole origin t version ≡ r → IsZone origin (accepted_or version r)
    by_result (Ok next) e = zone_whole origin t version next said z e
    by_result (Err refusal) e = z

pub cells_behind : (origin : Name) (t : Transaction) (version : Version) → AllSaid origin t → IsZone origin version → cell_count (after origin t version) ≤ cell_count version + cells_of_operations t.operations
cells_behind origin t version said z = by_result (whole origin t version) refl
  where
    by_result : (r : Result Version Refusal) → whole origin t version ≡ r → cell_count (accepted_or version r) ≤ cell_count version + cells_of_operations t.operations
    by_result (Ok next) e = whole_cells origin t version next said z e
    by_result (Err refusal) e = omega arith
