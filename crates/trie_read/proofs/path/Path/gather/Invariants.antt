use Rattle.std.proofs.Common.{◌≡◌, List}
use Rattle.trie_model.specs.Keys.{Entry}
use Rattle.trie_read.specs.Above.{Passes}
use Rattle.trie_read.proofs.AboveLaws.{SoFar}
use Rattle.trie_read.proofs.path.Path.gather.Given as goal

abbrev pub invariant-loop-level : goal.invariant-loop-level
invariant-loop-level g l = record {
  same : l.cells ≡ l.fn.cells;
  above : (before : List Entry) (p : Passes (g.C.CellRead.has l.fn.cells) l.key l.self l.root before) → SoFar (g.C.CellRead.has l.fn.cells) l.key l.self p.whole p.met l.level l.above;
}
