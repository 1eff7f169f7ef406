use Rattle.std.proofs.Common.{◌-◌, length}
use Rattle.chunk_usage.proofs.usage.Usage.gap.Given as goal

abbrev pub decreases-loop-chunk : goal.decreases-loop-chunk
decreases-loop-chunk l = length l.self.given - l.from
