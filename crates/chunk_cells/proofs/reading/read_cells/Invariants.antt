use Rattle.std.proofs.Common.{◌≡◌, ℕ, ◌+◌, ◌*◌, ◌<◌, ◌≤◌, List, slice_index}
use Rattle.trie_model.specs.Keys.{AreOctets}
use Rattle.trie_model.specs.Extents.{item_cell}
use Rattle.chunk_cells.proofs.reading.read_cells.Given as goal

abbrev pub invariant-loop-k : goal.invariant-loop-k
invariant-loop-k g l =
    record {
      same : l.cells ≡ l.fn.cells;
      read : (item : List ℕ) → AreOctets item → ((k : ℕ) → k < l.count → g.C.CellRead.has l.fn.cells (l.at + k) (item_cell item k)) → (i : ℕ) → i < 16 * l.k → slice_index l.out i ≡ slice_index item i;
      rest : (i : ℕ) → 16 * l.k ≤ i → slice_index l.out i ≡ slice_index l.fn.out i;
    }
