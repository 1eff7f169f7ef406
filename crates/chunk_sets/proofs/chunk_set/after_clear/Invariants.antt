use Rattle.std.proofs.Common.{◌≡◌, ◌-◌, ℕ, ◌<◌, ◌≤◌, length, slice_index}
use Rattle.chunk_sets.proofs.chunk_set.after_clear.Given as goal

abbrev pub invariant-loop-position : goal.invariant-loop-position
invariant-loop-position l = record {
  from : l.from ≤ l.position;
  within : l.position ≤ length l.words;
  clear : (i : ℕ) → l.from ≤ i → i < l.position → slice_index l.words i ≡ 0;
}

abbrev pub decreases-loop-position : goal.decreases-loop-position
decreases-loop-position l = length l.words - l.position
