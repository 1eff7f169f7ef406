use Rattle.std.proofs.Common.{◌≡◌, ◌∙◌, ◌<◌, length, sym, ap, subst}
use Rattle.std.specs.List.{slice_get}
use Rattle.std.proofs.lemmas.Option.{slice_get_within}
use Rattle.zone_model.specs.Names.{Name}
use Rattle.job_model.specs.Commands.{Ask}
use Rattle.job_model.specs.declared.Question.TheVariants.{Get}
use Rattle.qp_multi.specs.Passes.{Known, version_seen}
use Rattle.job_commands.specs.Commands.{Asked}
use Rattle.job_commands.specs.Works.{ended}
use Rattle.zone_table.specs.Locations.{IsZoneOf}
use Rattle.zone_table.specs.Passes.{table_known, zone_known}
use Rattle.zone_table.proofs.Lists.{some_is}
use Rattle.zone_table.proofs.PassLaws.{Went, went, went_as, with_zone, zone_told}
use Rattle.zones_threads.specs.Views.{Part}
use Rattle.zones_threads.proofs.StepLaws.{ask_goes, chosen_steps, zones_same}
use Rattle.zones_threads.proofs.getting.get.Goals as goal

pub returns : goal.returns
returns g c =
    let zone = c.in-Some.zone in
    let origins = c.args.zones.now.origins.items in
    let located = c.locate-located.new.self in
    let seat = c.zone-place.result.now in
    let next = c.run_question.new.pass in
    let new = with_zone located zone next in
    let outcome = c.in_ok-outcome.outcome in
    let question = Get c.args.name.now c.args.rtype in
    let w : Went origins located zone next = went origins located zone seat next c.locate-located.ensures.pass c.zone-place.ensures.value c.run_question.ensures.here c.run_question.ensures.place in
    let asked : Asked c.origin-origin.result.now question (zone_known located zone) (zone_known new zone) outcome =
    went_as (λ v x. Asked c.origin-origin.result.now question v x outcome) origins located zone seat next w c.zone-place.ensures.known c.in_ok-outcome.ensures.asked in
    let same_zones = zones_same c.args.pass.now located c.locate-located.ensures.others in
    record {
      pass = w.pass;
      kind = asked.shown;
      table = (
        c.locate-located.ensures.version,
        subst (IsZoneOf origins (version_seen (table_known located).seen) c.args.name.now) c.in-Some.is c.locate-located.ensures.zone,
      );
      zones_go = λ site is s opened_with first told under.
          let n = site.number in
          let old = zone_known c.args.pass.now n in
          let part : Part = record { command = Ask question; outcome = outcome } in
          let inside : n < length origins = slice_get_within origins n site.origin is.origin in
          chosen_steps s zone n part (ended old first) (ended (zone_known new n) first)
          (λ same.
          let origin : c.origin-origin.result.now ≡ s.origin = some_is c.origin-origin.result.now site.origin (sym c.origin-origin.ensures ∙ ap (slice_get origins) same ∙ is.origin) ∙ sym opened_with.index.origin_is in
          ask_goes s outcome old (zone_known new n) first opened_with.opening (zone_told origins c.args.pass.now c.requires.pass n inside) told under question
          (subst (λ k. Asked s.origin question (zone_known c.args.pass.now k) (zone_known new k) outcome) same
          (subst (λ (v : Known). Asked s.origin question v (zone_known new zone) outcome) (same_zones zone)
          (subst (λ (o : Name). Asked o question (zone_known located zone) (zone_known new zone) outcome) origin asked))))
          (λ differs. ap (λ (v : Known). ended v first) (w.others n differs ∙ same_zones n));
    }
