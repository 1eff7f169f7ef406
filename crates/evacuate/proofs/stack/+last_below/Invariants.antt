use Rattle.std.proofs.Common.{◌-◌}
use Rattle.evacuate.specs.Stacks.{StackKept}
use Rattle.evacuate.proofs.stack.+last_below.Given as goal

abbrev pub decreases-last_below : goal.decreases-last_below
decreases-last_below g l = 504 - l.low

abbrev pub invariant-loop-i : goal.invariant-loop-i
invariant-loop-i g l = StackKept l.fn.cells l.cells l.fn.low l.fn.stack l.stack
