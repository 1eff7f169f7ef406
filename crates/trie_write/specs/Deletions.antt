-- An entry taken out, by its key.
use Rattle.std.specs.Prelude.{◌≡◌, ℕ, Bool, List, []}
use Rattle.packed_node.specs.declared.Cell.{Cell}
use Rattle.trie_model.specs.Changes.{Removed, Shrunk}
use Rattle.trie_model.specs.Extents.{Extents}
use Rattle.trie_model.specs.Keys.{Entry}
use Rattle.trie_model.specs.Memory.{top_cell}
use Rattle.trie_model.specs.Trees.{Tree, IsTree}
use Rattle.trie_model.specs.Trees.Tree.{leaf}
use Rattle.chunk_usage.specs.Rooms.{Account}
use Rattle.trie_write.specs.declared.descend.Descent.{Descent}
use Rattle.trie_write.specs.declared.change.CellChange.{CellChange}
use Rattle.trie_write.specs.Asks.{HasKey}
use Rattle.trie_write.specs.Mutable.{WayAsks}
use Rattle.trie_space.specs.Spaces.{Ready}
use Rattle.trie_write.specs.Puts.{IsTaken, Makes}
use Rattle.trie_write.specs.Descents.{IsDescent, IsLastDescent}
use Rattle.trie_space.specs.Ways.{Fork, plug}

-- the list without the entry that has the key
pub record Deleted (key : List ℕ) (old new : List Entry) : Type 0 where
  pub gone : Entry
  pub removed : Removed gone old new
  pub same_key : gone.key ≡ key

-- The descent is the last one of a way to a leaf: its branch, from where the lower part of the way leads to the leaf.
pub record LeafDescent {S A : Type 0} (has : S → ℕ → Cell → Type 0) (account : A → Account) (s : S) (a : A) (key : List ℕ) (t : Descent) (lower : List Fork) (e : Entry) (first : Extents) : Type 0 where
  pub asks : WayAsks has account s a 65535 0 key (top_cell (plug lower (leaf e first))) lower (leaf e first)
  pub descent : IsDescent 65535 t lower (leaf e first)
  pub alone : descent.through.rest ≡ []

pub record LeafTurned {S A : Type 0} (has : S → ℕ → Cell → Type 0) (account : A → Account) (s : S) (a : A) (key : List ℕ) (t : Descent) : Type 0 where
  pub lower : List Fork
  pub entry : Entry
  pub first : Extents
  pub last : LeafDescent has account s a key t lower entry first

-- the change makes of the branch what it is without the leaf
pub record IsWithout {S : Type 0} (has : S → ℕ → Cell → Type 0) (s : S) (c : CellChange) (e : Entry) (old : Tree) : Type 0 where
  pub new : Tree
  pub makes : Makes has s c old new
  pub shrunk : (low : ℕ) → IsTree low old → Shrunk e low old new

-- the key is below a root that stands, and the descent is the last one on the way to its leaf
pub record DropAsks {S A : Type 0} (has : S → ℕ → Cell → Type 0) (account : A → Account) (s : S) (a : A) (r : ℕ) (key : List ℕ) (descent : Descent) (t : Tree) (version : List Entry) : Type 0 where
  pub there : HasKey has account s a r key t version
  pub last : IsLastDescent descent there.way (leaf there.entry there.first)

pub record DropAsked {S A : Type 0} (has : S → ℕ → Cell → Type 0) (account : A → Account) (s : S) (a : A) (r : ℕ) (key : List ℕ) (descent : Descent) : Type 0 where
  pub t : Tree
  pub version : List Entry
  pub asks : DropAsks has account s a r key descent t version

-- ---- the step to that

-- the leaf of the last descent may be taken from its branch
pub record CanTakeLeaf {S A : Type 0} (has : S → ℕ → Cell → Type 0) (kept : S → List ℕ) (given : S → List Bool) (account : A → Account) (s : S) (a : A) (key : List ℕ) (descent : Descent) : Type 0 where
  pub last : LeafTurned has account s a key descent
  pub ready : Ready kept given account s a

-- the change does so, in cells that weren't in use
pub record TakesLeaf {S A : Type 0} (has : S → ℕ → Cell → Type 0) (account : A → Account) (s : S) (a : A) (s_new : S) (a_new : A) (key : List ℕ) (descent : Descent) (c : CellChange) : Type 0 where
  pub without : (lower : List Fork) (e : Entry) (x : Extents) → LeafDescent has account s a key descent lower e x → IsWithout has s_new c e (plug lower (leaf e x))
  pub taken : IsTaken (account a) (account a_new) c
