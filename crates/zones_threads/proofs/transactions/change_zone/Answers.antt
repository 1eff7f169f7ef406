use Rattle.std.proofs.Common.{◌≡◌, ◌∙◌, ◌<◌, length, refl, sym, ap, subst}
use Rattle.std.specs.List.{slice_get}
use Rattle.std.proofs.lemmas.Option.{slice_get_within}
use Rattle.zone_model.specs.Names.{Name}
use Rattle.job_model.specs.Commands.{Block}
use Rattle.job_script.specs.Views.{asked_view}
use Rattle.shared_cells.specs.declared.view.TableSize.{TableSize}
use Rattle.qp_multi.specs.Passes.{Known, known_at}
use Rattle.job_commands.specs.Commands.{BlockRan, IsOpenedWith, OpensAt}
use Rattle.job_commands.specs.Works.{ended}
use Rattle.zone_table.specs.Passes.{zone_known}
use Rattle.zone_table.proofs.Lists.{some_is}
use Rattle.zone_table.proofs.PassLaws.{Went, went, went_as, with_zone, zone_told}
use Rattle.zones_threads.specs.Sites.{Site}
use Rattle.zones_threads.specs.Views.{Part}
use Rattle.zones_threads.proofs.StepLaws.{zone_pass, block_goes, chosen_steps}
use Rattle.zones_threads.proofs.transactions.change_zone.Goals as goal

pub run_block-requires-clause-may : goal.run_block-requires-clause-may
run_block-requires-clause-may g c =
    let site : Site = record { number = c.args.zone; origin = c.origin-origin.result.now; size = c.zone-index.result.now.shared.table.shared.key } in
    record {
      opens = subst (OpensAt c.origin-origin.result.now) (sym c.zone-place.ensures.known)
          (c.requires.opens site (record { origin = c.origin-origin.ensures; index = c.zone-index.result.now; there = c.zone-index.ensures.value; size = refl }));
      said = c.requires.said.1 c.origin-origin.result.now c.origin-origin.ensures;
    }

pub returns : goal.returns
returns g c =
    let zone = c.args.zone in
    let origins = c.args.zones.now.origins.items in
    let pass = c.args.pass.now in
    let seat = c.zone-place.result.now in
    let next = c.run_block.new.pass in
    let new = with_zone pass zone next in
    let origin = c.origin-origin.result.now in
    let index = c.zone-index.result.now in
    let block = c.args.block.now in
    let outcome = c.in_ok-outcome.outcome in
    let w : Went origins pass zone next = went origins pass zone seat next c.requires.pass c.zone-place.ensures.value c.run_block.ensures.pass.here c.run_block.ensures.pass.place in
    record {
      pass = w.pass;
      kind = refl;
      table = refl;
      zones_go = λ site is s opened_with first told under.
          let n = site.number in
          let old = zone_known pass n in
          let part : Part = record { command = Block block.weight (asked_view block) block.ending; outcome = outcome } in
          let inside : n < length origins = slice_get_within origins n site.origin is.origin in
          let own = zone_pass origins pass c.requires.pass n inside in
          chosen_steps s zone n part (ended old first) (ended (zone_known new n) first)
          (λ same.
          let same_origin : site.origin ≡ origin = some_is site.origin origin (sym is.origin ∙ ap (slice_get origins) (sym same) ∙ c.origin-origin.ensures) in
          let same_index = some_is is.index index (sym is.there ∙ ap (slice_get c.args.zones.now.zones.items) (sym same) ∙ c.zone-index.ensures.value) in
          let size : site.size ≡ index.shared.table.shared.key = is.size ∙ ap (λ i. i.shared.table.shared.key) same_index in
          let here : IsOpenedWith s origin index.shared.table.shared.key (known_at seat.seat) =
          subst (IsOpenedWith s origin index.shared.table.shared.key) (ap (zone_known pass) (sym same) ∙ sym c.zone-place.ensures.known)
          (subst (λ (z : TableSize). IsOpenedWith s origin z old) size (subst (λ (name : Name). IsOpenedWith s name site.size old) same_origin opened_with)) in
          let ran : BlockRan s (asked_view block) block.ending (zone_known pass zone) (zone_known new zone) outcome =
          went_as (λ v x. BlockRan s (asked_view block) block.ending v x outcome) origins pass zone seat next w c.zone-place.ensures.known (c.in_ok-outcome.ensures.runs.ran s here) in
          block_goes s outcome old (zone_known new n) first opened_with.opening (zone_told origins pass c.requires.pass n inside) told under block.weight (asked_view block) block.ending own.0 own.1 c.in_ok-outcome.ensures.runs.ends
          (subst (λ k. BlockRan s (asked_view block) block.ending (zone_known pass k) (zone_known new k) outcome) same ran))
          (λ differs. ap (λ (v : Known). ended v first) (w.others n differs));
    }
