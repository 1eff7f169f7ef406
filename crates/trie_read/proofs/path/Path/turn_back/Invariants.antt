use Rattle.std.proofs.Common.{◌≡◌, ◌≤◌, ◌++◌, List}
use Rattle.trie_model.specs.Keys.{Entry}
use Rattle.trie_model.specs.Trees.{Tree, entries_of}
use Rattle.trie_read.specs.Walks.{HangsBy, AnyStep}
use Rattle.trie_read.proofs.TurnLaws.{AheadFrom}
use Rattle.trie_read.proofs.path.Path.turn_back.Given as goal

abbrev pub invariant-loop-level : goal.invariant-loop-level
invariant-loop-level l = record {
  same : l.self ≡ l.fn.self;
  within : l.level ≤ l.fn.self.depth;
  ahead : (whole t : Tree) (before after : List Entry) → HangsBy AnyStep l.fn.self.steps whole l.fn.self.depth t before after → AheadFrom l.fn.self.steps whole l.level before (entries_of t ++ after);
}

abbrev pub decreases-loop-level : goal.decreases-loop-level
decreases-loop-level l = l.level
