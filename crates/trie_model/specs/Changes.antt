-- What becomes of a list of entries, and of a tree, when an entry is put in or taken out.
use Rattle.std.specs.Prelude.{◌≡◌, ℕ, ◌<◌, ◌≤◌, List, ◌∷◌, ◌++◌}
use Rattle.trie_model.specs.Keys.{at, Same, Entry, InList, Less}
use Rattle.trie_model.specs.Trees.{Tree, entries_of, IsTree}
use Rattle.trie_model.specs.Trees.Tree.{leaf, branch}

-- the list with the entry put in at its place
pub record Inserted (e : Entry) (old new : List Entry) : Type 0 where
  pub before : List Entry
  pub after : List Entry
  pub old_is : old ≡ before ++ after
  pub new_is : new ≡ before ++ (e ∷ after)
  pub lower : (x : Entry) → InList x before → Less x.key e.key
  pub upper : (x : Entry) → InList x after → Less e.key x.key

-- the list without the entry
pub record Removed (e : Entry) (old new : List Entry) : Type 0 where
  pub before : List Entry
  pub after : List Entry
  pub old_is : old ≡ before ++ (e ∷ after)
  pub new_is : new ≡ before ++ after

-- the tree with the entry put in
pub record Grown (e : Entry) (low : ℕ) (t new : Tree) : Type 0 where
  pub tree : IsTree low new
  pub put : Inserted e (entries_of t) (entries_of new)

-- the tree without the entry
pub record Shrunk (e : Entry) (low : ℕ) (t new : Tree) : Type 0 where
  pub tree : IsTree low new
  pub removed : Removed e (entries_of t) (entries_of new)

-- No key of the list has a longer beginning in common with k than `near` has: d positions. There, `near` has position p and
-- k another. So an entry with key k goes in at d.
pub record Nearest (d : ℕ) (k : List ℕ) (p : ℕ) (es : List Entry) : Type 0 where
  pub near : Entry
  pub there : InList near es
  pub same : Same d k near.key
  pub position : at near.key d ≡ p
  pub other : at k d ≡ p → ⊥
  pub apart : (e : Entry) → InList e es → (i : ℕ) × (i ≤ d) × (at k i ≡ at e.key i → ⊥)

-- the top node, where it is a branch, lies deeper than d
abbrev pub Deep : ℕ → Tree → Type 0
Deep d (leaf e where_at) = Unit {0}
Deep d (branch o where_at below) = d < o
