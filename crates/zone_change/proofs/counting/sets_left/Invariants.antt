use Rattle.std.proofs.Common.{◌≡◌, ◌+◌, length}
use Rattle.zone_change.proofs.counting.sets_left.Given as goal

abbrev pub invariant-loop-set : goal.invariant-loop-set
invariant-loop-set l = l.sets + length l.rest ≡ length l.fn.entry

abbrev pub decreases-loop-set : goal.decreases-loop-set
decreases-loop-set l = length l.rest
