use Rattle.std.proofs.Common.{◌≡◌, ◌≢◌, ℕ, ◌+◌, ◌<◌}
use Rattle.packed_node.specs.declared.Cell.{Cell}
use Rattle.trie_model.specs.Extents.{item_cell}
use Rattle.chunk_cells.proofs.writing.write_cells.Given as goal

abbrev pub invariant-loop-k : goal.invariant-loop-k
invariant-loop-k g l =
    record {
      lies : (i : ℕ) → i < l.k → g.C.CellRead.has l.cells (l.at + i) (item_cell l.item i);
      others : (q : ℕ) (c : Cell) → ((i : ℕ) → i < l.count → q ≢ l.at + i) → g.C.CellRead.has l.fn.cells q c → g.C.CellRead.has l.cells q c;
      given : g.C.CellWrite.given l.cells ≡ g.C.CellWrite.given l.fn.cells;
      kept : g.C.CellWrite.kept l.cells ≡ g.C.CellWrite.kept l.fn.cells;
    }
