use Rattle.std.proofs.Common.{length, arith}
use Rattle.zone_table.proofs.Lists.{read_at, numbered_at}
use Rattle.zone_table.proofs.zones.Zones.zone.Goals as goal

pub returns-clause-place : goal.returns-clause-place
returns-clause-place g c =
    let zones = c.args.self.now.zones.items in
    let inside = c.requires in
    let each = c.args.self.now.each in
    numbered_at (λ z. z.place) zones (length zones) c.args.zone c.index.result.now c.args.self.now.places (omega arith) (read_at zones c.args.zone c.index.result.now (omega arith) c.index.ensures)
