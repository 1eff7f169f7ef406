use Rattle.std.specs.Prelude.{length}
use Rattle.zone_table.proofs.close.+close_each.Given as goal

-- there is a zone less
abbrev pub decreases-close_each : goal.decreases-close_each
decreases-close_each g l = length l.zones.items
