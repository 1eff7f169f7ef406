use Rattle.std.proofs.Common.{length}
use Rattle.index_items.proofs.SizingLemmas.{Counted}
use Rattle.index_items.proofs.sizing.count_items.Given as goal

abbrev pub invariant-loop-len : goal.invariant-loop-len
invariant-loop-len l = Counted l.size l.left l.fn.left

abbrev pub decreases-loop-len : goal.decreases-loop-len
decreases-loop-len l = length l.left
