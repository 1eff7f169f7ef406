use Rattle.std.specs.Prelude.{length}
use Rattle.zone_table.proofs.handing.+hand_out_all.Given as goal

-- there is a zone less
abbrev pub decreases-hand_out_all : goal.decreases-hand_out_all
decreases-hand_out_all g l = length l.opened.items
