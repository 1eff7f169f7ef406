-- The entry whose key is nearest to a key, and where they first differ.
use Rattle.std.specs.Prelude.{◌≡◌, ℕ, ◌<◌, ◌≤◌, List, Option, Some, None}
use Rattle.packed_node.specs.declared.Cell.{Cell}
use Rattle.packed_node.specs.declared.Leaf.{Leaf}
use Rattle.trie_model.specs.Keys.{at, Same, Entry, InList}
use Rattle.trie_model.specs.Changes.{Nearest}
use Rattle.trie_read.specs.Reads.{IsLeafOf}
use Rattle.shift_key.specs.declared.difference.Difference.{Difference}

-- wherever the key first differs from the nearest one, it has differed from each
abbrev pub Apart : List ℕ → Entry → List Entry → Type 0
Apart key near es = (d : ℕ) → Same d key near.key → (at key d ≡ at near.key d → ⊥) → (x : Entry) → InList x es → (i : ℕ) × (i ≤ d) × (at key i ≡ at x.key i → ⊥)

-- the leaf of an entry whose key has the longest beginning in common with the key
pub record Closest (has : ℕ → Cell → Type 0) (key : List ℕ) (es : List Entry) (leaf : Leaf) : Type 0 where
  pub near : Entry
  pub there : InList near es
  pub leaf_of : IsLeafOf has near leaf
  pub apart : Apart key near es

pub record FirstDiffers (key : List ℕ) (es : List Entry) (d : Difference) : Type 0 where
  pub nearest : Nearest d.place key d.position es
  pub short : d.place ≤ 503
  pub inside : d.position < 47

-- none exactly where the key is there
abbrev pub Differs : List ℕ → List Entry → Option Difference → Type 0
Differs key es None = (x : Entry) × InList x es × (x.key ≡ key)
Differs key es (Some d) = FirstDiffers key es d
