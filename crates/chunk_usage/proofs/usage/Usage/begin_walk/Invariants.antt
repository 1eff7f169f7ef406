use Rattle.std.proofs.Common.{◌≡◌, ◌-◌, length}
use Rattle.chunk_usage.proofs.usage.Usage.begin_walk.Given as goal

abbrev pub invariant-loop-chunk : goal.invariant-loop-chunk
invariant-loop-chunk l = l.self ≡ l.fn.self

abbrev pub decreases-loop-chunk : goal.decreases-loop-chunk
decreases-loop-chunk l = length l.self.given - l.from
