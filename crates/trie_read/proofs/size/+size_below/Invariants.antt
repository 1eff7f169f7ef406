use Rattle.std.proofs.Common.{◌≡◌, ◌+◌, ◌-◌, length, suc}
use Rattle.trie_model.specs.Trees.{Tree, entries}
use Rattle.trie_model.specs.Shape.{nodes_in}
use Rattle.trie_read.specs.Reads.{IsTop}
use Rattle.trie_read.proofs.NodeLaws.{BranchTold}
use Rattle.trie_read.proofs.SizeLaws.{from}
use Rattle.trie_read.proofs.size.+size_below.Given as goal

abbrev pub decreases-size_below : goal.decreases-size_below
decreases-size_below g l = 504 - l.low

abbrev pub invariant-loop-i : goal.invariant-loop-i
invariant-loop-i g l =
    record {
      same : l.cells ≡ l.fn.cells;
      names : (t : Tree) (x : BranchTold t l.branch) → IsTop (g.C.CellRead.has l.fn.cells) l.fn.low l.fn.node t → l.whole.names + length (entries (from l.i x.below)) ≡ length (entries x.below);
      nodes : (t : Tree) (x : BranchTold t l.branch) → IsTop (g.C.CellRead.has l.fn.cells) l.fn.low l.fn.node t → l.whole.nodes + nodes_in (from l.i x.below) ≡ suc (nodes_in x.below);
    }
