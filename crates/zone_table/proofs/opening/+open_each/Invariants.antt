use Rattle.std.specs.Prelude.{length}
use Rattle.zone_table.proofs.opening.+open_each.Given as goal

-- there is a table less
abbrev pub decreases-open_each : goal.decreases-open_each
decreases-open_each g l = length l.blanks.items
