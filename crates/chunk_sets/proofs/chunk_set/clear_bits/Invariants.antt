use Rattle.std.proofs.Common.{◌≡◌, ℕ, ◌<◌, ◌≤◌, length, slice_index, bit_and, w64}
use Rattle.std.specs.Int.{bit_not}
use Rattle.chunk_sets.proofs.chunk_set.clear_bits.Given as goal

abbrev pub invariant-loop-position : goal.invariant-loop-position
invariant-loop-position l = record {
  same : length l.words ≡ length l.others;
  done : (i : ℕ) → i < l.position → slice_index l.words i ≡ bit_and (slice_index l.fn.words i) (bit_not w64 (slice_index l.others i));
  left : (i : ℕ) → l.position ≤ i → slice_index l.words i ≡ slice_index l.fn.words i;
}
