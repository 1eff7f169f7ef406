use Rattle.std.proofs.Common.{rules, ◌≡◌, ◌∙◌, ◌≤◌, refl, sym, ap, subst}
use Rattle.std.proofs.lemmas.List.{length-map}
use Rattle.job_model.specs.Outcomes.{passes_for}
use Rattle.job_script.specs.Views.{job_view, worker_view}
use Rattle.job_commands.specs.Runs.{IsRun}
use Rattle.qp_multi.specs.Openings.{room_in}
use Rattle.trie_model.specs.Shape.{cells}
use Rattle.trie_write.specs.Entries.{entries_of_items}
use Rattle.job_commands.specs.Histories.{OpenedWith}
use Rattle.job_commands.proofs.ZoneLaws.{zone_rises, zone_lawful}
use Rattle.job_commands.proofs.OpenLaws.{new_passes, all_open}
use Rattle.job_threads.proofs.zone.run_named.Goals as goal

pub open-requires-clause-rising : goal.open-requires-clause-rising
open-requires-clause-rising g c = zone_rises c.args.origin.now (entries_of_items c.args.items.now) c.requires.can.zone

pub open-requires-clause-lawful : goal.open-requires-clause-lawful
open-requires-clause-lawful g c = zone_lawful c.args.origin.now (entries_of_items c.args.items.now) c.requires.can.zone

pub run_job-requires-clause-can : goal.run_job-requires-clause-can
run_job-requires-clause-can g c = λ κs bounds. record {
  count = search rules;
  here = search rules;
  opens = all_open c.in-Ok.passes.items (λ p. p.seat) (entries_of_items c.args.items.now) c.args.origin.now (λ p. p.place ≡ 0) c.requires.can.zone c.in-Ok.ensures.opens.passes.told;
  in_turn = c.requires.can.in_turn;
  said = c.requires.can.said;
}

pub returns-in_ok-finished-in-Ok-clause-ran : goal.returns-in_ok-finished-in-Ok-clause-ran
returns-in_ok-finished-in-Ok-clause-ran g c = λ zone stands.
    let es = entries_of_items c.args.items.now in
    let size = c.args.blank.shared.table.shared.key in
    let s : OpenedWith = record { chunks = size.chunks; passes = size.passes; origin = c.args.origin.now; opening = es } in
    let f = c.in_ok-finished-in-Ok.finished in
    let same = c.in-Ok.ensures.opens.size in (
      subst (λ es. cells es ≤ room_in size.chunks) (sym stands.entries) c.in-Ok.ensures.opens.fits,
      subst (λ n. IsRun size.chunks n c.args.origin.now zone (job_view c.args.job.now) f.outcomes.items f.version f.names f.nodes) (c.requires.can.passes ∙ ap passes_for (sym (length-map c.args.job.now.workers.items worker_view)))
          (c.in_ok-finished-in-Ok.ensures.ran s zone (record { origin_is = refl; chunks = ap (λ k. k.chunks) (sym same); passes = ap (λ k. k.passes) (sym same) }) stands
          (new_passes c.in-Ok.passes.items (λ p. p.seat) es (λ p. p.place ≡ 0) c.in-Ok.ensures.opens.passes.told c.in-Ok.ensures.opens.passes.unused)),
    )
