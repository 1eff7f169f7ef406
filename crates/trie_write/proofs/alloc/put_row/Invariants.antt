use Rattle.std.proofs.Common.{◌≡◌, ℕ, ◌+◌, ◌<◌, Some, length, slice_get}
use Rattle.packed_node.specs.declared.Cell.{Cell}
use Rattle.trie_space.specs.Spaces.{Wrote}
use Rattle.trie_write.proofs.alloc.put_row.Given as goal

abbrev pub invariant-loop-i : goal.invariant-loop-i
invariant-loop-i g l =
    record {
      written : (k : ℕ) (c : Cell) → k < l.i → slice_get l.row k ≡ Some c → g.C.CellRead.has l.cells (l.at + k) c;
      wrote : Wrote g.C.CellRead.has g.C.CellWrite.kept g.C.CellWrite.given l.fn.cells l.cells l.at (length l.row);
    }
