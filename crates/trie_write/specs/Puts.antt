-- A change that is put at the end of a way.
use Rattle.std.specs.Prelude.{◌≡◌, ℕ, ◌+◌, ◌%◌, ◌≤◌, ◌∷◌, Bool, true, List, map, Contains}
use Rattle.packed_node.specs.declared.Cell.{Cell}
use Rattle.trie_model.specs.Extents.{AreExtents, row, weigh_extents}
use Rattle.trie_model.specs.Memory.{Beneath, top_cell}
use Rattle.trie_model.specs.Reach.{in_chunk, weigh_tree}
use Rattle.trie_model.specs.Trees.{Tree, entries_of, IsTree}
use Rattle.chunk_cells.specs.declared.extents.Extents.{Extents as Laid}
use Rattle.chunk_cells.specs.Laying.{extents_in}
use Rattle.chunk_usage.specs.declared.space.Shortage.{Shortage}
use Rattle.chunk_usage.specs.Rooms.{Account}
use Rattle.trie_write.specs.declared.change.Span.{Span}
use Rattle.trie_write.specs.declared.change.CellChange.{CellChange}
use Rattle.trie_space.specs.Rooted.{Rooted, no_spare}
use Rattle.trie_write.specs.Mutable.{SlotAsks}
use Rattle.trie_write.specs.Roots.{IsOutside}
use Rattle.trie_space.specs.Spaces.{Fenced, Ready}
use Rattle.trie_space.specs.Ways.{Fork, plug, Along, twigs_of, copied_along}
use Rattle.trie_space.specs.Weights.{at_place, mark}

-- what cells side by side weigh, and those of an item; what was taken for a change, and what it leaves
abbrev pub span : Span → (ℕ → ℕ) → ℕ
span x w = row w x.at x.n

abbrev pub item_span : Laid → (ℕ → ℕ) → ℕ
item_span x w = weigh_extents w x.len (extents_in x)

abbrev pub taken : CellChange → (ℕ → ℕ) → ℕ
taken c w = span c.new_twigs w + item_span c.new_item w

abbrev pub left : CellChange → (ℕ → ℕ) → ℕ
left c w = span c.old_twigs w + item_span c.old_item w

-- twigs lie in one chunk, and items in extents
pub record AreSpans (c : CellChange) : Type 0 where
  pub new_twigs : c.new_twigs.at % 1024 + c.new_twigs.n ≤ 1024
  pub new_item : AreExtents c.new_item.len (extents_in c.new_item)
  pub old_twigs : c.old_twigs.at % 1024 + c.old_twigs.n ≤ 1024
  pub old_item : AreExtents c.old_item.len (extents_in c.old_item)

-- The change makes the one tree of the other: its cell is the top of that one, which lies in cells of the old one and in those taken,
-- and all that it doesn't keep is left.
pub record Makes {S : Type 0} (has : S → ℕ → Cell → Type 0) (s : S) (c : CellChange) (end u : Tree) : Type 0 where
  pub is : c.cell ≡ top_cell u
  pub beneath : Beneath (has s) u
  pub weigh : (w : ℕ → ℕ) → weigh_tree w u + left c w ≡ weigh_tree w end + taken c w
  pub spans : AreSpans c

-- the cells taken for a change count, and weren't in use before
pub record IsTaken (old new : Account) (c : CellChange) : Type 0 where
  pub counts : (k : ℕ) → new.live k ≡ old.live k + taken c (in_chunk k)
  pub fresh : (q : ℕ) → taken c (at_place q) + mark old.used q ≤ mark new.used q

pub record PutAsks {S A : Type 0} (has : S → ℕ → Cell → Type 0) (account : A → Account) (s : S) (a : A) (place : ℕ) (key : List ℕ) (r : ℕ) (c : CellChange) (way : List Fork) (end u : Tree) : Type 0 where
  pub slot : SlotAsks has account s a place key (taken c) r way end
  pub makes : Makes has s c end u

pub record PutAsked {S A : Type 0} (has : S → ℕ → Cell → Type 0) (account : A → Account) (s : S) (a : A) (place : ℕ) (key : List ℕ) (r : ℕ) (c : CellChange) : Type 0 where
  pub way : List Fork
  pub end : Tree
  pub u : Tree
  pub asks : PutAsks has account s a place key r c way end u

-- a tree stands at the root that has the new one at the end of a way, where one with the old entries had the old one
pub record IsPut {S A : Type 0} (has : S → ℕ → Cell → Type 0) (account : A → Account) (s_new : S) (a_new : A) (place : ℕ) (key : List ℕ) (way : List Fork) (end u : Tree) (root : ℕ) : Type 0 where
  pub copy : List Fork
  pub along : Along place key copy
  pub tree : IsTree 0 (plug copy end)
  pub entries : entries_of (plug copy end) ≡ entries_of (plug way end)
  pub rooted : Rooted has account s_new a_new no_spare root (plug copy u)

-- No room was found, and these cells count no more.
pub record GivenBack {S A : Type 0} (has : S → ℕ → Cell → Type 0) (account : A → Account) (lacks : A → Shortage → Type 0) (s : S) (a : A) (s_new : S) (a_new : A) (spare : (ℕ → ℕ) → ℕ) (may_be_asked : ℕ → Type 0) (f : Shortage) : Type 0 where
  pub untouched : (q : ℕ) (c : Cell) → (account a).used q ≡ true → has s q c → has s_new q c
  pub counts : (k : ℕ) → (account a_new).live k + spare (in_chunk k) ≡ (account a).live k
  pub lack : lacks a_new f
  -- so many cells side by side were asked for
  pub asked : may_be_asked f.needed

-- the root's cell, or as many as a branch on the way has twigs
abbrev pub MayAskToPut : {S A : Type 0} → (S → ℕ → Cell → Type 0) → (A → Account) → S → A → ℕ → List ℕ → ℕ → CellChange → ℕ → Type 0
MayAskToPut has account s a place key r c n = (way : List Fork) (end u : Tree) → PutAsks has account s a place key r c way end u → Contains (1 ∷ map twigs_of way) n

-- A change is put, or there is no room to do so.
pub record PutsChange {S A : Type 0} (has : S → ℕ → Cell → Type 0) (kept : S → List ℕ) (given : S → List Bool) (account : A → Account) (s : S) (a : A) (s_new : S) (a_new : A) (place : ℕ) (key : List ℕ) (r : ℕ) (c : CellChange) : Type 0 where
  -- cells in use that the root doesn't meet say what they said
  pub outside : (way : List Fork) (end u : Tree) → PutAsks has account s a place key r c way end u
      → (q : ℕ) (x : Cell) → (account a).used q ≡ true → IsOutside r (plug way end) q → has s q x → has s_new q x
  -- as many were consumed at most as had to be copied
  pub consumes : (way : List Fork) (end u : Tree) → PutAsks has account s a place key r c way end u
      → (account a_new).consumed ≤ (account a).consumed + copied_along (account a).mutable 1 r way
  -- none but mutable cells in use were written, and what is kept is kept
  pub frame : Fenced has kept given account s a s_new a_new
  pub ready : Ready kept given account s_new a_new
