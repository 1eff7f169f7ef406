use Rattle.std.proofs.Common.{◌≡◌, ◌≤◌, ℕ, List}
use Rattle.trie_model.specs.Extents.{Extents}
use Rattle.trie_model.specs.Keys.{Entry}
use Rattle.trie_model.specs.Trees.{Tree, IsTree}
use Rattle.trie_model.specs.Trees.Tree.{leaf}
use Rattle.trie_read.specs.Walks.{HangsBy, Guided}
use Rattle.trie_read.proofs.GuideLaws.{CutTo}
use Rattle.trie_read.proofs.path.Path.cut.Given as goal

abbrev pub invariant-loop-self : goal.invariant-loop-self
invariant-loop-self l = record {
  steps : l.self.steps ≡ l.fn.self.steps;
  within : l.self.depth ≤ l.fn.self.depth;
  cut : (key : List ℕ) (whole : Tree) (e : Entry) (at : Extents) (before after : List Entry) → IsTree 0 whole → HangsBy (Guided key) l.fn.self.steps whole l.fn.self.depth (leaf e at) before after → CutTo key l.fn.self.steps l.self.depth whole e l.place;
}

abbrev pub decreases-loop-self : goal.decreases-loop-self
decreases-loop-self l = l.self.depth
