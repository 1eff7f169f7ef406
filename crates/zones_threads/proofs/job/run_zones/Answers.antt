use Rattle.std.proofs.Common.{◌≡◌, ◌∙◌, ℕ, List, Some, length, arith, refl, sym, ap, subst}
use Rattle.std.specs.List.{AllByRecursion, slice_get}
use Rattle.std.proofs.lemmas.List.{length-map}
use Rattle.std.proofs.lemmas.Option.{slice_get_within}
use Rattle.zone_model.specs.Names.{Name}
use Rattle.zones_model.specs.Outcomes.{passes_for}
use Rattle.qp_multi.specs.Closings.{AreAll}
use Rattle.job_commands.specs.Histories.{OpenedWith}
use Rattle.zone_table.specs.Passes.{table_known, zone_known}
use Rattle.zone_table.proofs.Lists.{get_in, mapped_at}
use Rattle.zones_threads.specs.Closings.{table_views, zone_views}
use Rattle.zones_threads.specs.Endings.{TableEnd, ZoneEnd}
use Rattle.zones_threads.specs.Sites.{IsSaid, IsSite, Site}
use Rattle.zones_report.specs.Outcomes.{all_dones_view}
use Rattle.zones_script.specs.Views.{worker_view}
use Rattle.zones_threads.specs.Views.{workers_view}
use Rattle.zones_threads.specs.Works.{TableOpenedWith}
use Rattle.zones_threads.proofs.EndLaws.{zones_run}
use Rattle.zones_threads.proofs.job.run_zones.Goals as goal

pub returns-clause-ran : goal.returns-clause-ran
returns-clause-ran g c = λ chunks list named apart begins each.
    let zones = c.args.zones in
    let origins = zones.origins.items in
    let passes = c.args.passes.items in
    let ws = workers_view c.args.workers.now in
    let gathered = c.in_ok-done.field-0 in
    let ran = c.in_ok-done.ensures.gathered in
    let last = c.in_ok-last.last in
    let ended = c.in_ok-last.ensures in
    let ds = gathered.done.items in
    let many : length origins ≡ length list = sym (ap (λ (l : List Name). length l) named) ∙ length-map list (λ z. z.origin) in
    let b : TableOpenedWith = record { origins = origins; opening = begins.opening } in
    let counted : length (table_views passes) ≡ zones.table.shared.table.shared.key.passes = length-map passes (λ p. table_known p) ∙ sym c.requires.can.size in
    let table : TableEnd origins (all_dones_view ws ds) last.table last.attached =
    ended.table b (table_views passes) (all_dones_view ws ds) refl apart begins.table (ran.table b refl begins.new) counted (subst (λ (n : ℕ). AreAll n (table_views passes)) (sym c.requires.can.size) begins.all) in
    zones_run chunks list ws ds (record { table = last.table; zones = last.versions.items }) last.attached last.names.items ran.kinds
    (subst (λ (o : List Name). AllByRecursion (AllByRecursion (IsSaid o)) ws) (sym named) c.requires.can.said)
    (subst (λ (o : List Name). TableEnd o (all_dones_view ws ds) last.table last.attached) (sym named) table)
    (ended.many.0 ∙ many) (ended.many.1 ∙ many)
    (λ number zone there version names at is.
    let origin : slice_get origins number ≡ Some zone.origin = subst (λ (o : List Name). slice_get o number ≡ Some zone.origin) named (mapped_at (λ z. z.origin) list number zone there) in
    let lt = slice_get_within origins number zone.origin origin in
    let index = get_in zones.zones.items number (let same = zones.each in omega (arith, same, lt)) in
    let site : Site = record { number = number; origin = zone.origin; size = index.0.shared.table.shared.key } in
    let is_site : IsSite zones site = record { origin = origin; index = index.0; there = index.1; size = refl } in
    let z = each site zone is_site there in
    let s : OpenedWith = record { chunks = site.size.chunks; passes = site.size.passes; origin = zone.origin; opening = z.opening } in
    let gathers = ran.each site s is_site (record { origin_is = refl; chunks = refl; passes = refl }) z.new in
    let long : length (zone_views number passes) ≡ site.size.passes = length-map passes (λ p. zone_known p number) ∙ sym z.passes in
    let e = ended.zones site version names is_site at is s zone (zone_views number passes) ws ds ran.kinds gathers refl z.stands long (subst (λ (n : ℕ). AreAll n (zone_views number passes)) (sym z.passes) z.all) in
    let for_all : site.size.passes ≡ passes_for (length ws) = z.passes ∙ c.requires.can.count ∙ ap passes_for (sym (length-map c.args.workers.now worker_view)) in
    subst (λ (n : ℕ). ZoneEnd chunks n zone number version names ws ds) for_all (subst (λ (n : ℕ). ZoneEnd n site.size.passes zone number version names ws ds) z.chunks_are e))

pub run_workers-requires-after_bounds : goal.run_workers-requires-after_bounds
run_workers-requires-after_bounds g c = λ κs bounds. record {
  count = c.requires.can.count ∙ ap passes_for (sym (length-map c.args.workers.now worker_view));
  passes = c.requires.can.passes;
  opens = c.requires.can.opens;
  said = c.requires.can.said;
}
