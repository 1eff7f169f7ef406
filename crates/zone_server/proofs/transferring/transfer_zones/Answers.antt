use Rattle.std.proofs.Common.{refl, subst, sym}
use Rattle.std.proofs.lemmas.Option.{slice_get_within}
use Rattle.zone_server.specs.Servings.{known_of}
use Rattle.zone_server.specs.Transfers.{Transfers}
use Rattle.zone_table.proofs.PassLaws.{with_zone}
use Rattle.zone_server.proofs.ServingLaws.{asked_serving, none_has, pass_in}
use Rattle.zone_server.proofs.TransferLaws.{transfers_by}
use Rattle.zone_server.proofs.transferring.transfer_zones.Goals as goal

pub returns-in_default-clause-transfers : goal.returns-in_default-clause-transfers
returns-in_default-clause-transfers g c = (none_has g.H.Home.zones c.args.zones.now c.requires.serves.zones c.args.origin.now (c.in_default.ensures.none refl), refl, refl)

pub zone-index-requires : goal.zone-index-requires
zone-index-requires g c = slice_get_within c.args.zones.now.origins.items c.in-Some.zone c.args.origin.now c.in-Some.ensures.found

pub zone-place-requires : goal.zone-place-requires
zone-place-requires g c = record {
  pass = pass_in g.H.Home.zones c.args.zones.now c.requires.serves.zones c.args.pass.now c.requires.serves.pass.pass;
  within = slice_get_within c.args.zones.now.origins.items c.in-Some.zone c.args.origin.now c.in-Some.ensures.found;
}

pub returns-clause-pass : goal.returns-clause-pass
returns-clause-pass g c =
    asked_serving g.H.Home.zones c.args.zones.now c.requires.serves.zones c.args.pass.now c.args.pass.now c.requires.serves.pass refl (pass_in g.H.Home.zones c.args.zones.now c.requires.serves.zones c.args.pass.now c.requires.serves.pass.pass)
    c.in-Some.zone c.zone-place.result.now c.dump_index-done.new.pass c.zone-place.ensures.value c.dump_index-done.ensures.stays.here c.dump_index-done.ensures.stays.place c.zone-place.ensures.known (record { grows = c.dump_index-done.ensures.dumped.shown.grows })

pub returns-clause-transfers : goal.returns-clause-transfers
returns-clause-transfers g c =
    let old = g.K.Sink.held c.args.sink.now in
    let new = g.K.Sink.held c.dump_index-done.new.sink in
    subst (Transfers g.H.Home.zones c.args.origin.now c.args.style old new (known_of c.args.pass.now) (known_of (with_zone c.args.pass.now c.in-Some.zone c.dump_index-done.new.pass))) (sym c.as_transfer.ensures)
    (transfers_by g.H.Home.zones c.args.zones.now c.requires.serves.zones c.args.pass.now c.requires.serves.pass c.in-Some.zone c.args.origin.now c.in-Some.ensures.found c.zone-place.result.now c.dump_index-done.new.pass
    c.zone-place.ensures.value c.zone-place.ensures.at.here c.dump_index-done.ensures.stays.here c.dump_index-done.ensures.stays.place c.zone-place.ensures.known c.args.style old new c.dump_index-done.result.1 c.dump_index-done.ensures.dumped)
