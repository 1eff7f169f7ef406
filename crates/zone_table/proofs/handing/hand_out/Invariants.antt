use Rattle.std.specs.Prelude.{length}
use Rattle.zone_table.specs.Handings.{HasOneMore}
use Rattle.zone_table.proofs.WalkLaws.{Walk}
use Rattle.zone_table.proofs.handing.hand_out.Given as goal

-- those from the place behind the last pass that is left on have one more
abbrev pub invariant-loop-pass : goal.invariant-loop-pass
invariant-loop-pass g l = Walk HasOneMore l.fn.all.items l.all.items l.fn.passes.items l.passes.items

abbrev pub decreases-loop-pass : goal.decreases-loop-pass
decreases-loop-pass g l = length l.passes.items
