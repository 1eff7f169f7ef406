use Rattle.std.proofs.Common.{refl}
use Rattle.std.proofs.lemmas.Option.{slice_get_within}
use Rattle.job_script.specs.Views.{asked_view}
use Rattle.qp_multi.specs.Passes.{known_at}
use Rattle.job_commands.specs.Commands.{BlockRan, BlockWants}
use Rattle.zone_table.proofs.Lists.{if_ok}
use Rattle.zone_table.proofs.PassLaws.{with_zone}
use Rattle.zone_server.specs.Changes.{HappensIn}
use Rattle.zone_server.specs.Homes.{opened_as}
use Rattle.zone_server.specs.Servings.{known_of}
use Rattle.zone_server.proofs.ChangeLaws.{on_err, ran_grows}
use Rattle.zone_server.proofs.ServingLaws.{asked_serving, happened_there, opens_at, pass_in, served_at, opened_as_at}
use Rattle.zone_server.proofs.changing.run_in.Goals as goal

pub zone-index-requires : goal.zone-index-requires
zone-index-requires g c = slice_get_within c.args.zones.now.origins.items c.args.zone c.args.origin.now c.requires.zone

pub zone-place-requires : goal.zone-place-requires
zone-place-requires g c = record {
  pass = pass_in g.H.Home.zones c.args.zones.now c.requires.zones c.args.pass.now c.requires.pass.pass;
  within = slice_get_within c.args.zones.now.origins.items c.args.zone c.args.origin.now c.requires.zone;
}

pub run_block-requires-clause-may : goal.run_block-requires-clause-may
run_block-requires-clause-may g c = record {
  opens = opens_at g.H.Home.zones c.args.zones.now c.requires.zones c.args.pass.now c.requires.pass c.args.zone c.args.origin.now c.requires.zone c.zone-place.result.now c.zone-place.ensures.known;
  said = c.requires.said;
}

pub returns-clause-pass : goal.returns-clause-pass
returns-clause-pass g c =
    let served = g.H.Home.zones in
    let s = served_at served c.args.zones.now c.requires.zones c.args.zone c.args.origin.now c.requires.zone in
    let opened_with = opened_as_at served c.args.zones.now c.requires.zones c.args.pass.now c.requires.pass c.args.zone c.args.origin.now c.requires.zone c.zone-place.result.now c.zone-place.ensures.known c.zone-index.result.now c.zone-index.ensures.value in
    asked_serving served c.args.zones.now c.requires.zones c.args.pass.now c.args.pass.now c.requires.pass refl (pass_in served c.args.zones.now c.requires.zones c.args.pass.now c.requires.pass.pass)
    c.args.zone c.zone-place.result.now c.run_block.new.pass c.zone-place.ensures.value c.run_block.ensures.pass.here c.run_block.ensures.pass.place c.zone-place.ensures.known
    (ran_grows (opened_as s.0) (asked_view c.args.block.now) c.args.block.now.ending (known_at c.zone-place.result.now.seat) (known_at c.run_block.new.pass.seat) c.run_block.result
    (c.run_block.ensures.runs.ran (opened_as s.0) opened_with) (c.run_block.ensures.runs.wants (opened_as s.0) opened_with))

pub returns-clause-ran : goal.returns-clause-ran
returns-clause-ran g c =
    let served = g.H.Home.zones in
    let s = served_at served c.args.zones.now c.requires.zones c.args.zone c.args.origin.now c.requires.zone in
    let opened_with = opened_as_at served c.args.zones.now c.requires.zones c.args.pass.now c.requires.pass c.args.zone c.args.origin.now c.requires.zone c.zone-place.result.now c.zone-place.ensures.known c.zone-index.result.now c.zone-index.ensures.value in
    let asked = asked_view c.args.block.now in
    let ends = c.args.block.now.ending in
    let seat = c.zone-place.result.now in
    let next = c.run_block.new.pass in
    if_ok (BlockRan (opened_as s.0) asked ends (known_at seat.seat) (known_at next.seat))
    (λ o. HappensIn served c.args.origin.now (λ x v w. BlockRan (opened_as x) asked ends v w o) (known_of c.args.pass.now) (known_of (with_zone c.args.pass.now c.args.zone next))) c.run_block.result
    (λ o b. happened_there served c.args.zones.now c.requires.zones c.args.pass.now c.args.pass.now c.requires.pass refl (pass_in served c.args.zones.now c.requires.zones c.args.pass.now c.requires.pass.pass)
    c.args.zone seat next c.zone-place.ensures.value c.run_block.ensures.pass.here c.run_block.ensures.pass.place c.zone-place.ensures.known (λ x v w. BlockRan (opened_as x) asked ends v w o) c.args.origin.now c.requires.zone b)
    (c.run_block.ensures.runs.ran (opened_as s.0) opened_with)

pub returns-clause-wants : goal.returns-clause-wants
returns-clause-wants g c =
    let served = g.H.Home.zones in
    let s = served_at served c.args.zones.now c.requires.zones c.args.zone c.args.origin.now c.requires.zone in
    let opened_with = opened_as_at served c.args.zones.now c.requires.zones c.args.pass.now c.requires.pass c.args.zone c.args.origin.now c.requires.zone c.zone-place.result.now c.zone-place.ensures.known c.zone-index.result.now c.zone-index.ensures.value in
    let asked = asked_view c.args.block.now in
    let seat = c.zone-place.result.now in
    let next = c.run_block.new.pass in
    on_err (BlockWants (opened_as s.0) asked (known_at seat.seat) (known_at next.seat))
    (HappensIn served c.args.origin.now (λ x v w. BlockWants (opened_as x) asked v w) (known_of c.args.pass.now) (known_of (with_zone c.args.pass.now c.args.zone next))) c.run_block.result
    (λ b. happened_there served c.args.zones.now c.requires.zones c.args.pass.now c.args.pass.now c.requires.pass refl (pass_in served c.args.zones.now c.requires.zones c.args.pass.now c.requires.pass.pass)
    c.args.zone seat next c.zone-place.ensures.value c.run_block.ensures.pass.here c.run_block.ensures.pass.place c.zone-place.ensures.known (λ x v w. BlockWants (opened_as x) asked v w) c.args.origin.now c.requires.zone b)
    (c.run_block.ensures.runs.wants (opened_as s.0) opened_with)
