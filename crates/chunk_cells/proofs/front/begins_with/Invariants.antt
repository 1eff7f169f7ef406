use Rattle.std.proofs.Common.{◌≡◌, ℕ, ◌*◌, ◌<◌, List, length, slice_index}
use Rattle.trie_model.specs.Keys.{AreOctets}
use Rattle.trie_model.specs.Extents.{HasItem}
use Rattle.chunk_cells.proofs.front.begins_with.Given as goal

abbrev pub invariant-loop-k : goal.invariant-loop-k
invariant-loop-k g l = record {
  same : l.cells ≡ l.fn.cells;
  alike : (item : List ℕ) → AreOctets item → HasItem (g.C.CellRead.has l.fn.cells) l.leaf.at l.leaf.len item
      → (i : ℕ) → i < 16 * l.k → i < length l.octets → slice_index item i ≡ slice_index l.octets i;
}
