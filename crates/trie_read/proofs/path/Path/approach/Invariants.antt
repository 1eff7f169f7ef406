use Rattle.std.proofs.Common.{◌≡◌, ◌-◌, List}
use Rattle.trie_model.specs.Keys.{Entry}
use Rattle.trie_model.specs.Trees.{Tree}
use Rattle.trie_model.specs.Memory.{top_cell}
use Rattle.trie_read.specs.Walks.{LeadsTo, Guided}
use Rattle.trie_read.proofs.PathLaws.{ComesTo}
use Rattle.trie_read.proofs.path.Path.approach.Given as goal

abbrev pub invariant-loop-node : goal.invariant-loop-node
invariant-loop-node g l = record {
  same : l.cells ≡ l.fn.cells;
  way : (whole t : Tree) (before after : List Entry) → LeadsTo (Guided l.key) (g.C.CellRead.has l.fn.cells) l.fn.self whole t before after → l.fn.cell ≡ top_cell t → ComesTo (Guided l.key) (g.C.CellRead.has l.fn.cells) l.self whole l.node;
}

abbrev pub decreases-loop-node : goal.decreases-loop-node
decreases-loop-node g l = 504 - l.self.depth
