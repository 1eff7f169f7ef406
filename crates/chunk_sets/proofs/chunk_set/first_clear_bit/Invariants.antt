use Rattle.std.proofs.Common.{◌≡◌, ℕ, ◌<◌, ◌-◌, ◌^◌, slice_index}
use Rattle.chunk_sets.proofs.chunk_set.first_clear_bit.Given as goal

abbrev pub invariant-loop-position : goal.invariant-loop-position
invariant-loop-position l = (i : ℕ) → i < l.position → slice_index l.words i ≡ 2 ^ 64 - 1
