use Rattle.std.proofs.Common.{◌≡◌, ◌-◌, ℕ, ◌<◌, length, slice_index}
use Rattle.chunk_usage.proofs.counts.Counts.clear.Given as goal

abbrev pub invariant-loop-chunk : goal.invariant-loop-chunk
invariant-loop-chunk l = record {
  last : l.self.last ≡ l.fn.self.last;
  same : length l.self.live ≡ length l.fn.self.live;
  done : (k : ℕ) → k < l.from → slice_index l.self.live k ≡ 0;
}

abbrev pub decreases-loop-chunk : goal.decreases-loop-chunk
decreases-loop-chunk l = length l.self.live - l.from
