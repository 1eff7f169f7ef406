use Rattle.std.specs.Prelude.{length}
use Rattle.zone_table.proofs.close.+split_passes.Given as goal

-- there is a pass less
abbrev pub decreases-split_passes : goal.decreases-split_passes
decreases-split_passes g l = length l.passes.items
