use Rattle.std.proofs.Common.{rules, ◌∙◌, Some, refl, sym, ap}
use Rattle.std.proofs.lemmas.Option.{slice_get_within}
use Rattle.qp_multi.specs.Passes.{known_at}
use Rattle.job_commands.proofs.ShowLaws.{seat_told}
use Rattle.zone_table.proofs.PassLaws.{with_zone}
use Rattle.zone_server.specs.Homes.{opened_as}
use Rattle.zone_server.specs.Reloads.{Reloading}
use Rattle.zone_server.specs.Servings.{known_of}
use Rattle.zone_server.proofs.ReloadLaws.{reloading_grows, reloads_as}
use Rattle.zone_server.proofs.ServingLaws.{asked_serving, happened_there, none_has, opens_at, pass_in, served_at, opened_as_at}
use Rattle.zone_server.proofs.reloading.reload_zones.Goals as goal

pub returns-in_default-clause-reloads : goal.returns-in_default-clause-reloads
returns-in_default-clause-reloads g c =
    (none_has g.H.Home.zones c.args.zones.now c.requires.zones c.args.loaded.now.origin (λ zone other at same. c.in_default.ensures.none refl zone other at (same ∙ sym c.origin.ensures)), refl)

pub zone-index-requires : goal.zone-index-requires
zone-index-requires g c = slice_get_within c.args.zones.now.origins.items c.in-Some.zone c.origin.result.now c.in-Some.ensures.found

pub zone-place-requires : goal.zone-place-requires
zone-place-requires g c = record {
  pass = pass_in g.H.Home.zones c.args.zones.now c.requires.zones c.args.pass.now c.requires.pass.pass;
  within = slice_get_within c.args.zones.now.origins.items c.in-Some.zone c.origin.result.now c.in-Some.ensures.found;
}

pub reload_index-requires : goal.reload_index-requires
reload_index-requires g c = record {
  here = c.zone-place.ensures.at.here;
  place = search rules;
  opens =
      opens_at g.H.Home.zones c.args.zones.now c.requires.zones c.args.pass.now c.requires.pass c.in-Some.zone c.args.loaded.now.origin (c.in-Some.ensures.found ∙ ap Some c.origin.ensures) c.zone-place.result.now c.zone-place.ensures.known;
  zone = c.requires.loaded;
}

pub returns-clause-pass : goal.returns-clause-pass
returns-clause-pass g c =
    let served = g.H.Home.zones in
    let zones = c.args.zones.now in
    let is = c.requires.zones in
    let pass = c.args.pass.now in
    let at = c.in-Some.ensures.found ∙ ap Some c.origin.ensures in
    let origin = c.args.loaded.now.origin in
    let place = c.zone-place.result.now in
    let s = served_at served zones is c.in-Some.zone origin at in
    let opened_with = opened_as_at served zones is pass c.requires.pass c.in-Some.zone origin at place c.zone-place.ensures.known c.zone-index.result.now c.zone-index.ensures.value in
    asked_serving served zones is pass pass c.requires.pass refl (pass_in served zones is pass c.requires.pass.pass)
    c.in-Some.zone place c.reload_index.new.pass c.zone-place.ensures.value c.reload_index.ensures.stays.here c.reload_index.ensures.stays.place c.zone-place.ensures.known
    (reloading_grows (opened_as s.0) c.args.loaded.now.pairs (known_at place.seat) (known_at c.reload_index.new.pass.seat) c.reload_index.result (seat_told place.seat c.zone-place.ensures.at.here) (c.reload_index.ensures.reloading (opened_as s.0) opened_with))

pub returns-clause-reloads : goal.returns-clause-reloads
returns-clause-reloads g c =
    let served = g.H.Home.zones in
    let zones = c.args.zones.now in
    let is = c.requires.zones in
    let pass = c.args.pass.now in
    let at = c.in-Some.ensures.found ∙ ap Some c.origin.ensures in
    let loaded = c.args.loaded.now in
    let place = c.zone-place.result.now in
    let next = c.reload_index.new.pass in
    let result = c.reload_index.result in
    let s = served_at served zones is c.in-Some.zone loaded.origin at in
    let opened_with = opened_as_at served zones is pass c.requires.pass c.in-Some.zone loaded.origin at place c.zone-place.ensures.known c.zone-index.result.now c.zone-index.ensures.value in
    reloads_as served loaded (known_of pass) (known_of (with_zone pass c.in-Some.zone next)) result
    (happened_there served zones is pass pass c.requires.pass refl (pass_in served zones is pass c.requires.pass.pass)
    c.in-Some.zone place next c.zone-place.ensures.value c.reload_index.ensures.stays.here c.reload_index.ensures.stays.place c.zone-place.ensures.known
    (λ x v w. Reloading (opened_as x) loaded.pairs v w result) loaded.origin at (c.reload_index.ensures.reloading (opened_as s.0) opened_with))
