-- What building gives.
use Rattle.std.specs.Prelude.{◌≡◌, ℕ, suc, ◌+◌, ◌<◌, ◌≤◌, Bool, List, ◌++◌, Option, Some, length}
use Rattle.packed_node.specs.declared.Cell.{Cell}
use Rattle.trie_model.specs.Keys.{Entry, Rises}
use Rattle.trie_model.specs.Shape.{cells}
use Rattle.trie_model.specs.Trees.{Tree, entries_of, IsTree}
use Rattle.trie_model.specs.Memory.{Beneath, top_cell}
use Rattle.trie_model.specs.Reach.{weigh_tree, in_chunk}
use Rattle.chunk_usage.specs.Rooms.{Account}
use Rattle.trie_write.specs.declared.branch_points.BranchPoint.{BranchPoint}
use Rattle.trie_write.specs.declared.bulk.Part.{Part}
use Rattle.trie_write.specs.declared.item.Item.{Item}
use Rattle.trie_write.specs.Entries.{entries_of_items}
use Rattle.trie_write.specs.Points.{Front}
use Rattle.trie_space.specs.Spaces.{Ready}
use Rattle.trie_space.specs.Weights.{at_place, mark}

-- The cell is the tree's top. What lies below it counts, and is in cells that weren't in use and now are, each once. The top's own
-- cell is still to come.
pub record Built (has : ℕ → Cell → Type 0) (old new : Account) (t : Tree) (cell : Cell) : Type 0 where
  pub is : cell ≡ top_cell t
  pub beneath : Beneath has t
  pub counts : (k : ℕ) → new.live k ≡ old.live k + weigh_tree (in_chunk k) t
  pub fresh : (q : ℕ) → weigh_tree (at_place q) t + mark old.used q ≤ mark new.used q
  pub cost : new.consumed < old.consumed + cells (entries_of t)

-- the tree of the first of these entries is built
abbrev pub BuiltFront : (ℕ → Cell → Type 0) → Account → Account → ℕ → List Entry → List Entry → Option BranchPoint → Cell → Type 0
BuiltFront has old new low es rest next cell = (t : Tree) × Front low es rest next t × Built has old new t cell

-- what is built of these entries is the first twig of a branch at the point
abbrev pub BuiltTwig : (ℕ → Cell → Type 0) → Account → Account → BranchPoint → List Entry → Part → Type 0
BuiltTwig has old new point es part = BuiltFront has old new (suc point.offset) es (entries_of_items part.rest.now) (Some point) part.cell

-- there was no room for it; what was asked for is less than it has
pub record Stopped (old new : Account) (low : ℕ) (es : List Entry) : Type 0 where
  pub t : Tree
  pub rest : List Entry
  pub shape : IsTree low t
  pub whole : es ≡ entries_of t ++ rest
  pub cost : new.consumed < old.consumed + cells (entries_of t)

-- ---- the steps to that

-- the trie of these items may be built
pub record CanBuild {S A : Type 0} (kept : S → List ℕ) (given : S → List Bool) (account : A → Account) (s : S) (a : A) (items : List Item) : Type 0 where
  -- they come in the order of their keys
  pub rising : Rises (entries_of_items items)
  -- no cell counts yet
  pub uncounted : (k : ℕ) → (account a).live k ≡ 0
  pub ready : Ready kept given account s a

-- the tree of the first of these items may be built, with offsets from there on
pub record CanBuildFront {S A : Type 0} (kept : S → List ℕ) (given : S → List Bool) (account : A → Account) (s : S) (a : A) (from : ℕ) (items : List Item) : Type 0 where
  pub some : 0 < length items
  pub rising : Rises (entries_of_items items)
  pub low : from ≤ 504
  pub ready : Ready kept given account s a

-- it is, and fewer items are left
pub record IsFront (has : ℕ → Cell → Type 0) (old new : Account) (low : ℕ) (items : List Item) (part : Part) : Type 0 where
  pub built : BuiltFront has old new low (entries_of_items items) (entries_of_items part.rest.now) part.next part.cell
  pub shorter : length part.rest.now < length items

-- a branch may be built at the point, whose first twig is built
pub record CanBuildBranch {S A : Type 0} (has : S → ℕ → Cell → Type 0) (kept : S → List ℕ) (given : S → List Bool) (account : A → Account) (s : S) (a : A) (twig : Part) (at : BranchPoint) : Type 0 where
  pub first : (base : Account) × (es : List Entry) × BuiltTwig (has s) base (account a) at es twig
  pub point : twig.next ≡ Some at
  pub ready : Ready kept given account s a

-- it is, and fewer items are left
pub record IsBranchBuilt {S A : Type 0} (has : S → ℕ → Cell → Type 0) (account : A → Account) (s : S) (a : A) (s_new : S) (a_new : A) (first : Part) (point : BranchPoint) (part : Part) : Type 0 where
  pub built : (base : Account) (es : List Entry) → BuiltTwig (has s) base (account a) point es first
      → BuiltFront (has s_new) base (account a_new) point.offset es (entries_of_items part.rest.now) part.next part.cell
  pub shorter : length part.rest.now < length first.rest.now
