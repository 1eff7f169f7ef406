use Rattle.std.proofs.Common.{◌∙◌, List, map, sym, ap, subst}
use Rattle.std.specs.List.{AllByRecursion, IsDistinct}
use Rattle.zone_model.specs.Names.{Name, same_name}
use Rattle.zone_table.specs.Openings.{RefusesZones, places_of, sizes_of}
use Rattle.zones_threads.specs.Sites.{IsSaid}
use Rattle.zones_threads.specs.Views.{workers_view}
use Rattle.zones_threads.specs.Works.{AreApart}
use Rattle.zones_threads.proofs.BeginLaws.{all_rise, all_lawful, all_open, pass_of_all, table_begins, zone_begins_there}
use Rattle.zones_threads.proofs.opening.run_named.Goals as goal

pub open-requires-clause-zones : goal.open-requires-clause-zones
open-requires-clause-zones g c =
    let can = c.requires.can in
    record {
      differ = record { some = can.some; few = can.few; different = can.different };
      begin = record { rising = all_rise c.args.zones.now can.zones; lawful = all_lawful c.args.zones.now can.zones };
    }

pub run_zones-requires-clause-can : goal.run_zones-requires-clause-can
run_zones-requires-clause-can g c = λ κs bounds. (
    let count = c.args.table.shared.table.shared.key.passes in
    let origins = c.in-Ok.ensures.opened.origins in
    let made = c.in-Ok.ensures.opened.passes in
    record {
      count = made.count_is ∙ c.requires.can.table_passes;
      size = ap (λ k. k.passes) c.in-Ok.ensures.opened.table ∙ sym made.count_is;
      passes = pass_of_all c.args.zones.now c.requires.can.zones c.in-Ok.opened count c.in-Ok.passes.items origins made;
      opens = all_open c.args.zones.now c.requires.can.zones c.in-Ok.opened count c.in-Ok.passes.items origins made;
      said = subst (λ (o : List Name). AllByRecursion (AllByRecursion (IsSaid o)) (workers_view c.args.workers.now)) (sym origins) c.requires.can.said;
    }
    )

pub returns-in_ok-finished-in-Ok-clause-ran : goal.returns-in_ok-finished-in-Ok-clause-ran
returns-in_ok-finished-in-Ok-clause-ran g c = λ chunks list all_chunks stand.
    let items = c.args.zones.now in
    let opened = c.in-Ok.opened in
    let count = c.args.table.shared.table.shared.key.passes in
    let passes = c.in-Ok.passes.items in
    let origins = c.in-Ok.ensures.opened.origins in
    let made = c.in-Ok.ensures.opened.passes in
    let apart : AreApart opened.origins.items = record { names = opened.names; different = subst (IsDistinct same_name) (sym origins) c.requires.can.different } in
    let ran = c.in_ok-finished-in-Ok.ensures.ran chunks list (stand.origins ∙ sym origins) apart (table_begins items c.requires.can.zones opened count passes origins made)
    (zone_begins_there items c.requires.can.zones opened count passes origins made chunks (map (λ b. b.shared.table.shared.key) c.args.blanks.items) c.in-Ok.ensures.opened.sizes c.requires.can.passes all_chunks list stand) in
    (c.in-Ok.ensures.opened.fits, ran)

pub returns-in-Err-Full-clause-ran : goal.returns-in-Err-Full-clause-ran
returns-in-Err-Full-clause-ran g c = λ chunks list all_chunks stand.
    let full = c.in-Err-Full in
    let refused = subst (RefusesZones (places_of c.args.zones.now (sizes_of c.args.blanks.items))) full.field-0-is full.ensures.refused in
    rw full.zone-is (rw full.cells-is (rw full.limit-is refused))
