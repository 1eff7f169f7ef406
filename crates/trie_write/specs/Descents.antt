-- What one step of the way tells.
use Rattle.std.specs.Prelude.{◌≡◌, ℕ, ◌<◌, List, [], ◌∷◌, ◌++◌}
use Rattle.packed_node.specs.declared.Cell.{Cell}
use Rattle.packed_node.specs.declared.Branch.{Branch}
use Rattle.trie_model.specs.Memory.{top_cell}
use Rattle.trie_model.specs.Trees.{Tree, Twigs, count, bitmap_of, beside}
use Rattle.trie_model.specs.Trees.Twigs.{twig}
use Rattle.trie_read.specs.Reads.{IsTop}
use Rattle.trie_write.specs.declared.descend.Descent.{Descent}
use Rattle.trie_space.specs.Ways.{Fork, plug, IsWay}

-- there is a way from a node, with offsets from low on
pub record HasWay (has : ℕ → Cell → Type 0) (place low : ℕ) (key : List ℕ) (node : Cell) : Type 0 where
  pub way : List Fork
  pub end : Tree
  pub top : IsTop has low node (plug way end)
  pub is_way : IsWay place key way end

-- the way takes a twig of the branch
pub record Through (b : Branch) (way : List Fork) (end : Tree) : Type 0 where
  pub left : Twigs
  pub position : ℕ
  pub right : Twigs
  pub rest : List Fork
  pub is : way ≡ record { offset = b.offset; first = b.twigs; left = left; position = position; right = right } ∷ rest
  pub bits : b.bitmap ≡ bitmap_of (beside left (twig position (plug rest end) right))

-- the one that the descent says
pub record IsDescent (place : ℕ) (t : Descent) (way : List Fork) (end : Tree) : Type 0 where
  pub through : Through t.branch way end
  pub before : t.branch.offset < place
  pub index_is : t.index ≡ count through.left
  pub next_is : t.next ≡ top_cell (plug through.rest end)

-- the one after which no other comes
pub record IsLastDescent (t : Descent) (way : List Fork) (end : Tree) : Type 0 where
  pub upper : List Fork
  pub lower : List Fork
  pub whole : way ≡ upper ++ lower
  pub descent : IsDescent 65535 t lower end
  pub alone : descent.through.rest ≡ []
