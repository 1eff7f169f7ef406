use Rattle.zone_table.specs.Openings.{sizes_of}
use Rattle.zone_server.proofs.OpeningLaws.{all_lawful, all_rise, are_serving, is_served}
use Rattle.zone_server.proofs.opening.open.Goals as goal

pub open-requires-clause-zones : goal.open-requires-clause-zones
open-requires-clause-zones g c =
    let are = c.requires.opening.are_zones in
    record {
      differ = record { some = c.requires.some; few = c.requires.opening.few; different = c.requires.opening.different };
      begin = record { rising = all_rise c.args.zones.now are; lawful = all_lawful c.args.zones.now are };
    }

pub serving-requires : goal.serving-requires
serving-requires g c =
    are_serving g.H.Home.zones c.args.zones.now (sizes_of c.args.blanks.items) c.requires.served c.requires.opening.each c.args.table.shared.table.shared.key.passes c.in_ok-zones.passes.items c.in_ok-zones.ensures.opened.passes

pub invariant_of-server : goal.invariant_of-server
invariant_of-server g c =
    is_served g.H.Home.zones c.args.zones.now (sizes_of c.args.blanks.items) c.requires.served c.requires.opening.each c.in_ok-zones.zones c.requires.opening.are_zones c.in_ok-zones.ensures.opened.origins c.in_ok-zones.ensures.opened.sizes
