use Rattle.std.proofs.Common.{refl}
use Rattle.std.proofs.lemmas.Option.{slice_get_within}
use Rattle.zone_table.specs.Changes.{Attaches}
use Rattle.zone_server.proofs.FindLaws.{table_changed}
use Rattle.zone_server.proofs.ServingLaws.{looked, none_has, pass_in}
use Rattle.zone_server.proofs.attaching.attach_zone.Goals as goal

pub returns-in_default-clause-attached : goal.returns-in_default-clause-attached
returns-in_default-clause-attached g c = (none_has g.H.Home.zones c.args.zones.now c.requires.zones c.args.origin.now (c.in_default.ensures.none refl), refl)

pub attach-requires : goal.attach-requires
attach-requires g c = record {
  pass = pass_in g.H.Home.zones c.args.zones.now c.requires.zones c.args.pass.now c.requires.pass.pass;
  within = slice_get_within c.args.zones.now.origins.items c.in-Some.zone c.args.origin.now c.in-Some.ensures.found;
}

pub returns-clause-pass : goal.returns-clause-pass
returns-clause-pass g c = looked g.H.Home.zones c.args.zones.now c.requires.zones c.args.pass.now c.attach.new.pass c.requires.pass c.attach.ensures.others c.attach.ensures.pass

pub returns-clause-attached : goal.returns-clause-attached
returns-clause-attached g c =
    table_changed Attaches g.H.Home.zones c.args.origin.now c.args.pass.now c.attach.new.pass c.attach.result c.told.result _ c.told.ensures c.in-Some.ensures.found c.attach.ensures.attaches c.attach.ensures.others
