use Rattle.std.proofs.Common.{◌≡◌, ◌∙◌, ℕ, List, length, map, arith, rules, sym, ap, subst}
use Rattle.std.proofs.lemmas.List.Elements.{All-from_recursion}
use Rattle.std.specs.List.{All, AllByRecursion}
use Rattle.std.proofs.lemmas.List.{length-map}
use Rattle.shared_cells.specs.declared.view.TableSize.{TableSize}
use Rattle.zone_model.specs.Names.{Name}
use Rattle.job_commands.specs.Histories.{IsZone}
use Rattle.job_report.specs.Pieces.{pieces_text}
use Rattle.zones_model.specs.Commands.{Command, origins_of}
use Rattle.zones_report.specs.Outcomes.{all_refused}
use Rattle.zones_report.specs.Texts.{finished_text}
use Rattle.zones_script.specs.Views.{worker_view, workers_view}
use Rattle.zone_table.specs.Openings as opening
use Rattle.zones_threads.specs.Calls.{AllHeard}
use Rattle.zones_threads.specs.Openings.{HeardOn, ZonesRanOn}
use Rattle.zones_threads.specs.Sites.{IsSaid}
use Rattle.zones_threads.specs.declared.opening.ZonesRan.TheVariants as ran
use Rattle.qp_main.specs.Opens.{AreAllItems}
use Rattle.qp_main.proofs.OpensLemmas.{all_zones, different, first_told, items_many, run_answers, sizes_many, they_stand}
use Rattle.qp_main.proofs.ZonesLemmas.{zones_reported}
use Rattle.qp_main.proofs.several.report_zones.Goals as goal

pub run_zone_items-requires-clause-can : goal.run_zone_items-requires-clause-can
run_zone_items-requires-clause-can g c κs within =
    let are = subst (AreAllItems c.args.zones.items) (sym c.deref-2.ensures.value) c.in_ok-items.ensures in
    let items = c.deref-2.result.now in
    let many = items_many c.args.zones.items items are in
    let blanks = c.in_ok-blanks.ensures.each in
    let counted = c.len-2.ensures in
    let held = c.args.zones.ok.0 in
    let listed = c.requires.listed in
    let sizes = map (λ b. b.shared.table.shared.key) c.in_ok-blanks.blanks.items in
    let stand = they_stand c.args.zones.items items are in
    let over = subst (λ (o : List Name). AllByRecursion (AllByRecursion (IsSaid o)) (workers_view c.args.script.now)) stand.origins c.requires.script.said in
    record {
      table_chunks = search rules;
      table_passes = search rules;
      few_workers = search rules;
      passes = subst (λ (n : ℕ). All (λ (s : TableSize). s.passes ≡ n) sizes) (sym c.in_ok-table.ensures.passes) c.in_ok-blanks.ensures.passes;
      some = (let some = listed.some in omega arith);
      few = (let few = listed.few in omega arith);
      each = length-map c.in_ok-blanks.blanks.items (λ b. b.shared.table.shared.key) ∙ (let e : length c.in_ok-blanks.blanks.items ≡ length items = omega arith in e);
      different = different c.args.zones.items items listed are;
      zones = All-from_recursion (λ z. IsZone z.origin (opening.entries_in z)) items (all_zones c.args.zones.items items c.requires.zones are);
      said = subst (λ (ws : List (List Command)). AllByRecursion (AllByRecursion (IsSaid (opening.origins_of items))) ws) (sym (ap (map worker_view) c.deref-3.ensures.value)) over;
    }

pub returns-in-Finished-clause-told : goal.returns-in-Finished-clause-told
returns-in-Finished-clause-told g c =
    let chunks = c.args.invocation.now.chunks in
    let zones = c.args.zones.items in
    let items = c.deref-2.result.now in
    let sizes = map (λ b. b.shared.table.shared.key) c.in_ok-blanks.blanks.items in
    let f = c.in-Finished.finished in
    let text = pieces_text c.in_ok-text-in-Finished.text in
    let are : AreAllItems zones items = subst (AreAllItems zones) (sym c.deref-2.ensures.value) c.in_ok-items.ensures in
    let all = c.in_ok-blanks.ensures.chunks in
    let many = sizes_many c.in_ok-blanks.blanks.items (λ b. b.shared.table.shared.key) zones items are (let blanks = c.in_ok-blanks.ensures.each in let counted = c.len-2.ensures in let held = c.args.zones.ok.0 in omega arith) in
    let told : ZonesRanOn (opening.places_of items sizes) chunks zones (map worker_view c.deref-3.result.now) (ran.Finished f) = search (rules, c.in_ok-finished.ensures.ran chunks zones all (they_stand zones items are)) in
    let run = subst (λ (ws : List (List Command)). ZonesRanOn (opening.places_of items sizes) chunks zones ws (ran.Finished f)) (ap (map worker_view) c.deref-3.ensures.value) told in
    let origins : c.deref-in-Finished-2.result.now ≡ origins_of zones = c.deref-in-Finished-2.ensures.value ∙ c.in_ok-origins.ensures ∙ ap origins_of c.deref.ensures.value in
    run_answers chunks zones items sizes are many all (workers_view c.args.script.now) run.0 c.status_of.result text
    (zones_reported chunks zones (workers_view c.args.script.now) f text c.any_refused-refused.result c.status_of.result run.1
    (c.in_ok-text-in-Finished.ensures ∙ ap (λ (o : List Name). finished_text o f) origins)
    (c.any_refused-refused.ensures ∙ ap all_refused c.deref-in-Finished.ensures.value) c.status_of.ensures)

pub returns-clause-told : goal.returns-clause-told
returns-clause-told g c =
    let chunks = c.args.invocation.now.chunks in
    let zones = c.args.zones.items in
    let items = c.deref-2.result.now in
    let sizes = map (λ b. b.shared.table.shared.key) c.in_ok-blanks.blanks.items in
    let text = pieces_text c.in_ok-no_room-in-DoesNotFit.field-0 in
    let are : AreAllItems zones items = subst (AreAllItems zones) (sym c.deref-2.ensures.value) c.in_ok-items.ensures in
    let all = c.in_ok-blanks.ensures.chunks in
    let many = sizes_many c.in_ok-blanks.blanks.items (λ b. b.shared.table.shared.key) zones items are (let blanks = c.in_ok-blanks.ensures.each in let counted = c.len-2.ensures in let held = c.args.zones.ok.0 in omega arith) in
    let told : ZonesRanOn (opening.places_of items sizes) chunks zones (map worker_view c.deref-3.result.now) (ran.DoesNotFit c.in-DoesNotFit.zone c.in-DoesNotFit.cells c.in-DoesNotFit.limit) = search (rules, c.in_ok-finished.ensures.ran chunks zones all (they_stand zones items are)) in
    first_told chunks zones items sizes are many all (workers_view c.args.script.now) c.in-DoesNotFit.zone c.in-DoesNotFit.cells c.in-DoesNotFit.limit text told c.in_ok-no_room-in-DoesNotFit.ensures

pub returns-in-Finished-clause-heard : goal.returns-in-Finished-clause-heard
returns-in-Finished-clause-heard g c = λ has_run.
    let hears = g.G.Gate.hears c.args.gate.now in
    let told : HeardOn hears (map worker_view c.deref-3.result.now) (ran.Finished c.in-Finished.finished) = search (rules, c.in_ok-finished.ensures.heard) in
    subst (λ (ws : List (List Command)). AllHeard hears 1 ws) (ap (map worker_view) c.deref-3.ensures.value) told
