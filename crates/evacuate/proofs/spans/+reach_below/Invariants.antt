use Rattle.std.proofs.Common.{◌≡◌, ◌-◌}
use Rattle.evacuate.proofs.spans.+reach_below.Given as goal

abbrev pub decreases-reach_below : goal.decreases-reach_below
decreases-reach_below g l = 504 - l.low

abbrev pub invariant-loop-i : goal.invariant-loop-i
invariant-loop-i g l = record {
  cells : l.cells ≡ l.fn.cells;
  usage : l.usage ≡ l.fn.usage;
}
