-- The way from the top of a tree down along a key.
use Rattle.std.specs.Prelude.{◌≡◌, ℕ, suc, ◌+◌, ◌<◌, ◌≤◌, Bool, List, [], ◌∷◌, if◌then◌else◌}
use Rattle.trie_model.specs.Keys.{at}
use Rattle.trie_model.specs.Trees.{Tree, Twigs, count, beside}
use Rattle.trie_model.specs.Trees.Tree.{leaf, branch}
use Rattle.trie_model.specs.Trees.Twigs.{twig}

-- a branch on the way: the twigs on both sides of the one that the way takes
pub record Fork : Type 0 where
  pub offset : ℕ
  pub first : ℕ  -- where its first twig lies
  pub left : Twigs
  pub position : ℕ
  pub right : Twigs

-- the branch, with a tree at that twig; and the tree that has another at the end of the way
abbrev pub fork : Fork → Tree → Tree
fork f t = branch f.offset f.first (beside f.left (twig f.position t f.right))

abbrev pub plug : List Fork → Tree → Tree
plug [] t = t
plug (f ∷ way) t = fork f (plug way t)

-- where that twig lies; and where the end of the way does, which begins at r
abbrev pub twig_at : Fork → ℕ
twig_at f = f.first + count f.left

abbrev pub end_at : ℕ → List Fork → ℕ
end_at r [] = r
end_at r (f ∷ way) = end_at (twig_at f) way

-- the top, where it is a branch, has its offset at the place or behind it
abbrev pub NotBefore : ℕ → Tree → Type 0
NotBefore place (leaf e where_at) = Unit {0}
NotBefore place (branch o where_at below) = place ≤ o

-- the way takes the key's twigs, at offsets before the place
abbrev pub Along : ℕ → List ℕ → List Fork → Type 0
Along place key [] = Unit {0}
Along place key (f ∷ way) = (f.offset < place) × (f.position ≡ at key f.offset) × Along place key way

-- and ends at a tree that has no further such offset
pub record IsWay (place : ℕ) (key : List ℕ) (way : List Fork) (t : Tree) : Type 0 where
  pub along : Along place key way
  pub ends : NotBefore place t

-- how many twigs a branch has, and all on the way
abbrev pub twigs_of : Fork → ℕ
twigs_of f = count f.left + suc (count f.right)

abbrev pub twigs_along : List Fork → ℕ
twigs_along [] = 0
twigs_along (f ∷ way) = twigs_of f + twigs_along way

-- how many cells have to be copied so that the end may be written: n with the one at r, and all further ones, where that is immutable
abbrev pub copied_along : (ℕ → Bool) → ℕ → ℕ → List Fork → ℕ
copied_along mutable n r [] = if mutable r then 0 else n
copied_along mutable n r (f ∷ way) = if mutable r then copied_along mutable (twigs_of f) (twig_at f) way else n + twigs_along (f ∷ way)
