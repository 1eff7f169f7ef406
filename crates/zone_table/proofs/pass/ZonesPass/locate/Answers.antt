use Rattle.qp_multi.specs.Passes.{known_at, version_seen}
use Rattle.zone_table.proofs.pass.ZonesPass.locate.Goals as goal

pub returns-clause-zone : goal.returns-clause-zone
returns-clause-zone g c =
    c.deepest-zone.ensures (version_seen (known_at c.look-version.new.self.table.seat).seen) c.args.name.now (record { each = c.wire.ensures.name.each; same = c.wire.ensures.wire })
    c.look-version.ensures.attached
