use Rattle.std.specs.Prelude.{length}
use Rattle.zone_table.proofs.OriginLaws.{Passed}
use Rattle.zone_table.proofs.zones.Zones.deepest.Given as goal

abbrev pub invariant-loop-zone : goal.invariant-loop-zone
invariant-loop-zone g l = Passed l.fn.self.origins.items l.fn.attached l.fn.octets l.rest

-- there is a label less
abbrev pub decreases-loop-zone : goal.decreases-loop-zone
decreases-loop-zone g l = length l.rest
