use Rattle.std.proofs.Common.{refl}
use Rattle.std.proofs.lemmas.Option.{slice_get_within}
use Rattle.zone_table.specs.Changes.{Detaches}
use Rattle.zone_server.proofs.FindLaws.{table_changed}
use Rattle.zone_server.proofs.ServingLaws.{looked, none_has, pass_in}
use Rattle.zone_server.proofs.attaching.detach_zone.Goals as goal

pub returns-in_default-clause-detached : goal.returns-in_default-clause-detached
returns-in_default-clause-detached g c = (none_has g.H.Home.zones c.args.zones.now c.requires.zones c.args.origin.now (c.in_default.ensures.none refl), refl)

pub detach-requires : goal.detach-requires
detach-requires g c = record {
  pass = pass_in g.H.Home.zones c.args.zones.now c.requires.zones c.args.pass.now c.requires.pass.pass;
  within = slice_get_within c.args.zones.now.origins.items c.in-Some.zone c.args.origin.now c.in-Some.ensures.found;
}

pub returns-clause-pass : goal.returns-clause-pass
returns-clause-pass g c = looked g.H.Home.zones c.args.zones.now c.requires.zones c.args.pass.now c.detach.new.pass c.requires.pass c.detach.ensures.others c.detach.ensures.pass

pub returns-clause-detached : goal.returns-clause-detached
returns-clause-detached g c =
    table_changed Detaches g.H.Home.zones c.args.origin.now c.args.pass.now c.detach.new.pass c.detach.result c.told.result _ c.told.ensures c.in-Some.ensures.found c.detach.ensures.detaches c.detach.ensures.others
