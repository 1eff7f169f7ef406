use Rattle.std.proofs.Common.{◌≡◌, ℕ, ◌<◌, ◌≤◌, slice_index}
use Rattle.chunk_sets.proofs.chunk_set.first_bit_of_words.Given as goal

abbrev pub invariant-loop-position : goal.invariant-loop-position
invariant-loop-position l = record { from : l.from ≤ l.position; none : (i : ℕ) → l.from ≤ i → i < l.position → slice_index l.words i ≡ 0 }
