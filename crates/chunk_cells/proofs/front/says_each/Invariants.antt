use Rattle.std.proofs.Common.{◌≡◌, ℕ, ◌<◌, ◌≤◌, List, slice_index, drop}
use Rattle.std.specs.Int.{w64, from_le_bytes}
use Rattle.chunk_cells.proofs.front.says_each.Given as goal

abbrev pub invariant-loop-i : goal.invariant-loop-i
invariant-loop-i l = (item : List ℕ) → ((i : ℕ) → slice_index item i < 256) → l.word ≡ from_le_bytes w64 (drop l.start item)
    → (i : ℕ) → l.start ≤ i → i < l.i → slice_index item i ≡ slice_index l.octets i
