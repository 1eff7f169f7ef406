-- What an insertion below a root is asked, and what it makes.
use Rattle.std.specs.Prelude.{◌≡◌, ℕ, suc, ◌<◌, ◌≤◌, ◌∷◌, ◌++◌, Bool, List, map, length, Contains}
use Rattle.packed_node.specs.declared.Cell.{Cell}
use Rattle.packed_node.specs.Nodes.{branch_cell}
use Rattle.packed_node.specs.declared.Branch.{Branch}
use Rattle.chunk_cells.specs.declared.extents.Extents.{Extents as Laid}
use Rattle.trie_model.specs.Changes.{Nearest, Grown, Deep}
use Rattle.trie_model.specs.Keys.{Entry, IsEntry}
use Rattle.trie_model.specs.Reach.{WithinTree}
use Rattle.trie_model.specs.Trees.{Tree, entries_of, IsTree}
use Rattle.zone_model.specs.Keys.{Leads}
use Rattle.chunk_usage.specs.Rooms.{Account, Handed}
use Rattle.trie_read.specs.Reads.{IsTop}
use Rattle.trie_write.specs.declared.change.CellChange.{CellChange}
use Rattle.trie_write.specs.declared.change.Span.{Span}
use Rattle.shift_key.specs.declared.difference.Difference.{Difference}
use Rattle.trie_write.specs.Laid.{IsLaid, IsNoItem, extent_sizes}
use Rattle.trie_write.specs.Paths.{branches_on_path}
use Rattle.trie_write.specs.Puts.{IsTaken, Makes}
use Rattle.trie_space.specs.Spaces.{Ready}
use Rattle.trie_space.specs.Standing.{StandsIn}
use Rattle.trie_space.specs.Ways.{NotBefore, Fork, plug, IsWay}
use Rattle.trie_write.specs.Tops.{IsBranchTop}

-- The key first differs from those of a tree at the place, where the nearest has the position.
pub record IsFirst (key : List ℕ) (first : Difference) (end : Tree) : Type 0 where
  pub nearest : Nearest first.place key first.position (entries_of end)
  pub short : first.place ≤ 503
  pub inside : first.position < 47

-- a tree at a node whose offset isn't before that place, and the laid item of the key
pub record WithAsks {S A : Type 0} (has : S → ℕ → Cell → Type 0) (account : A → Account) (s : S) (a : A) (key item : List ℕ) (first : Difference) (node : Cell) (x : Laid) (end : Tree) : Type 0 where
  pub entry : IsEntry (record { key = key; item = item })
  pub laid : IsLaid has account s a x item
  pub top : IsTop (has s) 0 node end
  pub within : WithinTree (account a).used end
  pub ends : NotBefore first.place end
  pub differs : IsFirst key first end

pub record WithAsked {S A : Type 0} (has : S → ℕ → Cell → Type 0) (account : A → Account) (s : S) (a : A) (key : List ℕ) (first : Difference) (node : Cell) (x : Laid) : Type 0 where
  pub item : List ℕ
  pub end : Tree
  pub asks : WithAsks has account s a key item first node x end

-- where the tree's top lies deeper, and where it is a branch at the place
pub record PairAsked {S A : Type 0} (has : S → ℕ → Cell → Type 0) (account : A → Account) (s : S) (a : A) (key : List ℕ) (first : Difference) (node : Cell) (x : Laid) : Type 0 where
  pub item : List ℕ
  pub end : Tree
  pub asks : WithAsks has account s a key item first node x end
  pub deep : Deep first.place end

pub record JoinAsked {S A : Type 0} (has : S → ℕ → Cell → Type 0) (account : A → Account) (s : S) (a : A) (key : List ℕ) (first : Difference) (b : Branch) (x : Laid) : Type 0 where
  pub node : Cell
  pub item : List ℕ
  pub end : Tree
  pub asks : WithAsks has account s a key item first node x end
  pub top : IsBranchTop end b
  pub here : b.offset ≡ first.place

-- the change makes of the tree what it is with the entry
pub record IsWith {S : Type 0} (has : S → ℕ → Cell → Type 0) (s : S) (c : CellChange) (place : ℕ) (e : Entry) (old : Tree) : Type 0 where
  pub new : Tree
  pub makes : Makes has s c old new
  pub grown : (low : ℕ) → low ≤ place → IsTree low old → Grown e low old new

-- A trie stands, in which the way along the key ends where the key first differs.
pub record LacksKey {S A : Type 0} (has : S → ℕ → Cell → Type 0) (account : A → Account) (s : S) (a : A) (r : ℕ) (key : List ℕ) (first : Difference) (t : Tree) (version : List Entry) : Type 0 where
  pub stands : StandsIn (has s) (account a).used (account a).live r t version
  pub way : List Fork
  pub end : Tree
  pub is : t ≡ plug way end
  pub is_way : IsWay first.place key way end
  pub differs : IsFirst key first end

pub record KeyIsMissing {S A : Type 0} (has : S → ℕ → Cell → Type 0) (account : A → Account) (s : S) (a : A) (r : ℕ) (key : List ℕ) (first : Difference) : Type 0 where
  pub t : Tree
  pub version : List Entry
  pub asks : LacksKey has account s a r key first t version

-- ---- the steps to that

-- the change to a branch, whose twigs are these and whose leaf is new
pub record IsLeafAdded (b : Branch) (twigs : ℕ) (item : Laid) (old : Span) (c : CellChange) : Type 0 where
  pub cell : c.cell ≡ branch_cell b
  pub new_twigs : c.new_twigs ≡ record { at = b.twigs; n = twigs }
  pub new_item : c.new_item ≡ item
  pub old_twigs : c.old_twigs ≡ old
  -- no item goes
  pub old_item : IsNoItem c.old_item

-- a leaf may be added at a node; beside the node in a branch of two; and among the twigs of a branch
pub record CanAddLeaf {S A : Type 0} (has : S → ℕ → Cell → Type 0) (kept : S → List ℕ) (given : S → List Bool) (account : A → Account) (s : S) (a : A) (key : List ℕ) (first : Difference) (node : Cell) (x : Laid) : Type 0 where
  pub asks : WithAsked has account s a key first node x
  pub ready : Ready kept given account s a

pub record CanPair {S A : Type 0} (has : S → ℕ → Cell → Type 0) (kept : S → List ℕ) (given : S → List Bool) (account : A → Account) (s : S) (a : A) (key : List ℕ) (first : Difference) (node : Cell) (x : Laid) : Type 0 where
  pub asks : PairAsked has account s a key first node x
  pub ready : Ready kept given account s a

pub record CanJoin {S A : Type 0} (has : S → ℕ → Cell → Type 0) (kept : S → List ℕ) (given : S → List Bool) (account : A → Account) (s : S) (a : A) (key : List ℕ) (first : Difference) (b : Branch) (x : Laid) : Type 0 where
  pub asks : JoinAsked has account s a key first b x
  pub ready : Ready kept given account s a

-- what is asked for with each of them: the item, and the tree at the node
abbrev pub LeafAsks : {S A : Type 0} → (S → ℕ → Cell → Type 0) → (A → Account) → S → A → List ℕ → Difference → Cell → Laid → List ℕ → Tree → Type 0
LeafAsks has account s a key first node x item end = WithAsks has account s a key item first node x end

abbrev pub PairAsks : {S A : Type 0} → (S → ℕ → Cell → Type 0) → (A → Account) → S → A → List ℕ → Difference → Cell → Laid → List ℕ → Tree → Type 0
PairAsks has account s a key first node x item end = WithAsks has account s a key item first node x end × Deep first.place end

abbrev pub JoinAsks : {S A : Type 0} → (S → ℕ → Cell → Type 0) → (A → Account) → S → A → List ℕ → Difference → Branch → Laid → List ℕ → Tree → Type 0
JoinAsks has account s a key first b x item end = (node : Cell) × WithAsks has account s a key item first node x end × IsBranchTop end b

-- so many cells side by side may be asked for: two, or one more than a branch on the path has
abbrev pub MayAskForLeaf : {S A : Type 0} → (S → ℕ → Cell → Type 0) → (A → Account) → S → A → List ℕ → Difference → Cell → Laid → ℕ → Type 0
MayAskForLeaf has account s a key first node x n = (item : List ℕ) (end : Tree) → WithAsks has account s a key item first node x end → Contains (2 ∷ map suc (branches_on_path key end)) n

-- the change adds the leaf, whatever item and tree are asked for
pub record AddsLeaf {S A : Type 0} (has : S → ℕ → Cell → Type 0) (account : A → Account) (a : A) (s_new : S) (a_new : A) (key : List ℕ) (first : Difference) (x : Laid) (asked : List ℕ → Tree → Type 0) (c : CellChange) : Type 0 where
  pub with : (item : List ℕ) (end : Tree) → asked item end → IsWith has s_new c first.place (record { key = key; item = item }) end
  -- its twigs weren't in use, and now are
  pub handed : Handed (account a) (account a_new) c.new_twigs.at c.new_twigs.n
  pub item : c.new_item ≡ x

-- a name may be put in that isn't there
pub record CanInsert {S A : Type 0} (has : S → ℕ → Cell → Type 0) (kept : S → List ℕ) (given : S → List Bool) (account : A → Account) (s : S) (a : A) (r : ℕ) (key : List ℕ) (first : Difference) (item : List ℕ) : Type 0 where
  -- the item begins with the name
  pub leads : Leads key item
  pub missing : KeyIsMissing has account s a r key first
  pub ready : Ready kept given account s a

-- the change puts it in, in cells that weren't in use
pub record IsNewLeaf {S A : Type 0} (has : S → ℕ → Cell → Type 0) (account : A → Account) (s : S) (a : A) (s_new : S) (a_new : A) (r : ℕ) (key : List ℕ) (first : Difference) (item : List ℕ) (c : CellChange) : Type 0 where
  pub with : (t : Tree) (version : List Entry) (h : LacksKey has account s a r key first t version) → IsWith has s_new c first.place (record { key = key; item = item }) h.end
  pub taken : IsTaken (account a) (account a_new) c

-- so many cells side by side may be asked for: those of an extent, two, or one more than a branch on the path has
abbrev pub MayAskForName : {S A : Type 0} → (S → ℕ → Cell → Type 0) → (A → Account) → S → A → ℕ → List ℕ → Difference → List ℕ → ℕ → Type 0
MayAskForName has account s a r key first item n = (t : Tree) (version : List Entry) (h : LacksKey has account s a r key first t version) → Contains (extent_sizes (length item) ++ (2 ∷ map suc (branches_on_path key h.end))) n
