-- What the top cell of a tree says.
use Rattle.std.specs.Prelude.{◌≡◌, length}
use Rattle.packed_node.specs.declared.Branch.{Branch}
use Rattle.packed_node.specs.declared.Leaf.{Leaf}
use Rattle.trie_model.specs.Extents.{Extents, first_of}
use Rattle.trie_model.specs.Keys.{Entry}
use Rattle.trie_model.specs.Trees.{Tree, Twigs, bitmap_of}
use Rattle.trie_model.specs.Trees.Tree.{leaf, branch}

pub record IsBranchTop (t : Tree) (b : Branch) : Type 0 where
  pub below : Twigs
  pub is : t ≡ branch b.offset b.twigs below
  pub bits : b.bitmap ≡ bitmap_of below

pub record IsLeafTop (t : Tree) (l : Leaf) : Type 0 where
  pub e : Entry
  pub extents : Extents
  pub is : t ≡ leaf e extents
  pub at : l.at ≡ first_of extents
  pub len : l.len ≡ length e.item
