-- The way to the last leaf of a tree, and what becomes of it where a leaf comes behind.
use Rattle.std.specs.Prelude.{ℕ, ◌<◌, ◌≤◌, Bool, false, nat_lt, ◌==◌, List, [], ◌∷◌, if◌then◌else◌}
use Rattle.trie_model.specs.Keys.{at, Same, Entry}
use Rattle.trie_model.specs.Trees.{Tree, Twigs}
use Rattle.trie_model.specs.Trees.Tree.{leaf, branch}
use Rattle.trie_model.specs.Trees.Twigs.{none, twig}

abbrev mutual
  -- the offsets of the branches above the last leaf, from the top
  pub way : Tree → List ℕ
  way (leaf e x) = []
  way (branch o where_at below) = o ∷ last_way [] below

  -- below the last of these twigs, or else these offsets
  pub last_way : List ℕ → Twigs → List ℕ
  last_way offsets none = offsets
  last_way offsets (twig p t rest) = last_way (way t) rest

-- the key of the last entry, or else this key
abbrev pub last_key : List ℕ → List Entry → List ℕ
last_key key [] = key
last_key key (e ∷ es) = last_key e.key es

-- those of some rising offsets that come before an offset
abbrev pub before : ℕ → List ℕ → List ℕ
before d [] = []
before d (o ∷ os) = if nat_lt o d then o ∷ before d os else []

-- it is one of them
abbrev pub meets : ℕ → List ℕ → Bool
meets d [] = false
meets d (o ∷ os) = if nat_lt o d then meets d os else o == d

-- two keys first differ at the place, where the second has the higher position
pub record Parts (d : ℕ) (key next : List ℕ) : Type 0 where
  pub same : Same d key next
  pub rises : at key d < at next d
  pub early : d ≤ 503
