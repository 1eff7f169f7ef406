-- What it means that the way to a place is made mutable.
use Rattle.std.specs.Prelude.{◌≡◌, ◌≢◌, ℕ, ◌+◌, ◌<◌, ◌≤◌, ◌∷◌, ◌++◌, Bool, true, false, List, map, Contains, count_ones}
use Rattle.packed_node.specs.declared.Cell.{Cell}
use Rattle.packed_node.specs.Nodes.{IsBranch}
use Rattle.trie_model.specs.Extents.{IsRow, row}
use Rattle.trie_model.specs.Memory.{Beneath, top_cell}
use Rattle.trie_model.specs.Reach.{in_chunk, weigh_tree}
use Rattle.trie_model.specs.Trees.{Tree, entries_of, IsTree}
use Rattle.chunk_usage.specs.Rooms.{Account}
use Rattle.trie_space.specs.Rooted.{Hangs, Rooted}
use Rattle.trie_space.specs.Spaces.{Fenced, Frame, IsWritable, MayWrite, Ready, Wrote}
use Rattle.trie_space.specs.Ways.{Fork, plug, end_at, Along, IsWay, twigs_of, twigs_along, copied_along}
use Rattle.trie_space.specs.Weights.{at_place, mark}
use Rattle.trie_write.specs.declared.descend.Descent.{Descent}
use Rattle.trie_write.specs.declared.mutable.Spot.{Spot}

-- A tree hangs on a cell, and the way leads through it.
pub record WayAsks {S A : Type 0} (has : S → ℕ → Cell → Type 0) (account : A → Account) (s : S) (a : A) (place low : ℕ) (key : List ℕ) (cell : Cell) (way : List Fork) (end : Tree) : Type 0 where
  pub hangs : Hangs has account s a low cell (plug way end)
  pub is_way : IsWay place key way end

pub record WayAsked {S A : Type 0} (has : S → ℕ → Cell → Type 0) (account : A → Account) (s : S) (a : A) (place low : ℕ) (key : List ℕ) (cell : Cell) : Type 0 where
  pub way : List Fork
  pub end : Tree
  pub asks : WayAsks has account s a place low key cell way end

-- The twigs on the way were copied: the cell is the top of a tree with the same entries, in which another way, with the same offsets,
-- leads to the same end. What that tree reaches is in cells of the old one or in cells that weren't in use, and the counts follow.
pub record IsCopied {S A : Type 0} (has : S → ℕ → Cell → Type 0) (given : S → List Bool) (account : A → Account) (a : A) (s_new : S) (a_new : A) (place low : ℕ) (key : List ℕ) (at : ℕ) (way : List Fork) (end : Tree) (cell : Cell) (slot : ℕ) : Type 0 where
  pub copy : List Fork
  pub shape : IsTree low (plug copy end)
  pub entries : entries_of (plug copy end) ≡ entries_of (plug way end)
  pub along : Along place key copy
  pub is : cell ≡ top_cell (plug copy end)
  pub beneath : Beneath (has s_new) (plug copy end)
  pub slot_is : slot ≡ end_at at copy
  pub writable : IsWritable given account s_new a_new at → IsWritable given account s_new a_new slot
  pub counts : (k : ℕ) → (account a_new).live k + weigh_tree (in_chunk k) (plug way end) ≡ (account a).live k + weigh_tree (in_chunk k) (plug copy end)
  pub met : (q : ℕ) → weigh_tree (at_place q) (plug copy end) + mark (account a).used q ≤ weigh_tree (at_place q) (plug way end) + mark (account a_new).used q

-- The way in two parts: to a cell that may be written, and on from there, where all has to be copied.
pub record IsParted (mutable : ℕ → Bool) (at : ℕ) (way : List Fork) (end : Tree) (last : ℕ) (cell : Cell) : Type 0 where
  pub upper : List Fork
  pub lower : List Fork
  pub whole : way ≡ upper ++ lower
  pub last_is : last ≡ end_at at upper
  pub is : cell ≡ top_cell (plug lower end)
  pub copied : (n : ℕ) → copied_along mutable n at way ≡ twigs_along lower

pub record SlotAsks {S A : Type 0} (has : S → ℕ → Cell → Type 0) (account : A → Account) (s : S) (a : A) (place : ℕ) (key : List ℕ) (spare : (ℕ → ℕ) → ℕ) (r : ℕ) (way : List Fork) (end : Tree) : Type 0 where
  pub tree : IsTree 0 (plug way end)
  pub rooted : Rooted has account s a spare r (plug way end)
  pub is_way : IsWay place key way end

pub record SlotAsked {S A : Type 0} (has : S → ℕ → Cell → Type 0) (account : A → Account) (s : S) (a : A) (place : ℕ) (key : List ℕ) (r : ℕ) : Type 0 where
  pub spare : (ℕ → ℕ) → ℕ
  pub way : List Fork
  pub end : Tree
  pub asks : SlotAsks has account s a place key spare r way end

-- A tree with the same entries stands at the root, in which a way leads to the same end, whose cell may be written. That cell, and all
-- that were written, were met by the old tree if they were in use, but not by what hangs at the end.
pub record IsSlot {S A : Type 0} (has : S → ℕ → Cell → Type 0) (given : S → List Bool) (account : A → Account) (s : S) (a : A) (s_new : S) (a_new : A) (place : ℕ) (key : List ℕ) (spare : (ℕ → ℕ) → ℕ) (old : ℕ) (way : List Fork) (end : Tree) (root slot : ℕ) : Type 0 where
  pub copy : List Fork
  pub tree : IsTree 0 (plug copy end)
  pub rooted : Rooted has account s_new a_new spare root (plug copy end)
  pub entries : entries_of (plug copy end) ≡ entries_of (plug way end)
  pub along : Along place key copy
  pub slot_is : slot ≡ end_at root copy
  pub writable : IsWritable given account s_new a_new slot
  pub outside : (q : ℕ) (c : Cell) → (account a).used q ≡ true → at_place q old + weigh_tree (at_place q) (plug way end) ≡ 0 → has s q c → has s_new q c
  pub apart : (q : ℕ) → (account a).used q ≡ true → at_place q old + weigh_tree (at_place q) (plug way end) ≡ 0 → q ≡ slot → ⊥
  pub below : (q : ℕ) (c : Cell) → 1 ≤ weigh_tree (at_place q) end → has s q c → has s_new q c

-- ---- the steps to that

-- the twigs of the branch of a descent may be moved to others
pub record CanMoveTwigs {S A : Type 0} (has : S → ℕ → Cell → Type 0) (kept : S → List ℕ) (given : S → List Bool) (account : A → Account) (s : S) (a : A) (d : Descent) (to : ℕ) : Type 0 where
  -- the way takes one of them
  pub index : d.index < count_ones d.branch.bitmap
  -- the branch is one still with its twigs there
  pub node : IsBranch (record d.branch { twigs = to })
  pub old : IsRow d.branch.twigs (count_ones d.branch.bitmap)
  pub new : IsRow to (count_ones d.branch.bitmap)
  pub there : (i : ℕ) → i < count_ones d.branch.bitmap → (c : Cell) × has s (d.branch.twigs + i) c
  pub apart : (i j : ℕ) → i < count_ones d.branch.bitmap → j < count_ones d.branch.bitmap → d.branch.twigs + i ≢ to + j
  pub blank : MayWrite kept given s to (count_ones d.branch.bitmap)
  pub counted : (k : ℕ) → row (in_chunk k) d.branch.twigs (count_ones d.branch.bitmap) ≤ (account a).live k

-- they were, and the old ones count no more
pub record MovesTwigs {S A : Type 0} (has : S → ℕ → Cell → Type 0) (kept : S → List ℕ) (given : S → List Bool) (account : A → Account) (s : S) (a : A) (s_new : S) (a_new : A) (d : Descent) (to : ℕ) (below : Cell) : Type 0 where
  -- the one that the way takes says what was made below it, and the others say what they said
  pub twig : has s_new (to + d.index) below
  pub copied : (i : ℕ) (c : Cell) → i < count_ones d.branch.bitmap → i ≢ d.index → has s (d.branch.twigs + i) c → has s_new (to + i) c
  pub wrote : Wrote has kept given s s_new to (count_ones d.branch.bitmap)
  pub counts : (k : ℕ) → (account a_new).live k + row (in_chunk k) d.branch.twigs (count_ones d.branch.bitmap) ≡ (account a).live k
  pub rest : account a_new ≡ record (account a) { live = (account a_new).live }

-- a way was copied: as many cells were consumed at most as there are twigs along it
pub record CopiesWay {S A : Type 0} (has : S → ℕ → Cell → Type 0) (kept : S → List ℕ) (given : S → List Bool) (account : A → Account) (s : S) (a : A) (s_new : S) (a_new : A) (place low : ℕ) (key : List ℕ) (cell : Cell) : Type 0 where
  pub consumes : (way : List Fork) (end : Tree) → WayAsks has account s a place low key cell way end → (account a_new).consumed ≤ (account a).consumed + twigs_along way
  -- none but new cells were written, and the next step may follow
  pub frame : Frame has kept given account s a s_new a_new
  pub ready : Ready kept given account s_new a_new

-- a branch on the way has so many twigs
abbrev pub MayAskAlong : {S A : Type 0} → (S → ℕ → Cell → Type 0) → (A → Account) → S → A → ℕ → ℕ → List ℕ → Cell → ℕ → Type 0
MayAskAlong has account s a place low key cell n = (way : List Fork) (end : Tree) → WayAsks has account s a place low key cell way end → Contains (map twigs_of way) n

-- the last cell of the way that may be written
pub record IsLastMutable {S A : Type 0} (has : S → ℕ → Cell → Type 0) (given : S → List Bool) (account : A → Account) (s : S) (a : A) (s_new : S) (place low : ℕ) (key : List ℕ) (from last : Spot) : Type 0 where
  pub parted : (way : List Fork) (end : Tree) → WayAsks has account s a place low key from.node way end → IsParted (account a).mutable from.at way end last.at last.node
  pub writable : IsWritable given account s_new a last.at

-- the way below a root that may be written may be made mutable
pub record CanOpenBelow {S A : Type 0} (has : S → ℕ → Cell → Type 0) (kept : S → List ℕ) (given : S → List Bool) (account : A → Account) (s : S) (a : A) (place : ℕ) (key : List ℕ) (top : Spot) : Type 0 where
  pub asks : SlotAsked has account s a place key top.at
  -- what the root's cell says
  pub node : (c : Cell) → has s top.at c → top.node ≡ c
  pub writable : IsWritable given account s a top.at
  pub ready : Ready kept given account s a

-- and that of one that may not
pub record CanOpenAnew {S A : Type 0} (has : S → ℕ → Cell → Type 0) (kept : S → List ℕ) (given : S → List Bool) (account : A → Account) (s : S) (a : A) (place : ℕ) (key : List ℕ) (top : Spot) : Type 0 where
  pub asks : SlotAsked has account s a place key top.at
  -- what the root's cell says
  pub node : (c : Cell) → has s top.at c → top.node ≡ c
  pub immutable : (account a).mutable top.at ≡ false
  pub ready : Ready kept given account s a

-- A way is made mutable, or there is no room to do so: as many cells were consumed at most as had to be copied.
pub record OpensWay {S A : Type 0} (has : S → ℕ → Cell → Type 0) (kept : S → List ℕ) (given : S → List Bool) (account : A → Account) (s : S) (a : A) (s_new : S) (a_new : A) (place : ℕ) (key : List ℕ) (r : ℕ) : Type 0 where
  pub consumes : (spare : (ℕ → ℕ) → ℕ) (way : List Fork) (end : Tree) → SlotAsks has account s a place key spare r way end
      → (account a_new).consumed ≤ (account a).consumed + copied_along (account a).mutable 1 r way
  -- none but mutable cells in use were written, and what is kept is kept
  pub frame : Fenced has kept given account s a s_new a_new
  pub ready : Ready kept given account s_new a_new

-- a branch on the way below a root has so many twigs
abbrev pub MayAskBelow : {S A : Type 0} → (S → ℕ → Cell → Type 0) → (A → Account) → S → A → ℕ → List ℕ → ℕ → ℕ → Type 0
MayAskBelow has account s a place key r n = (spare : (ℕ → ℕ) → ℕ) (way : List Fork) (end : Tree) → SlotAsks has account s a place key spare r way end → Contains (map twigs_of way) n

-- or it is the root's cell alone
abbrev pub MayAskToOpen : {S A : Type 0} → (S → ℕ → Cell → Type 0) → (A → Account) → S → A → ℕ → List ℕ → ℕ → ℕ → Type 0
MayAskToOpen has account s a place key r n = (spare : (ℕ → ℕ) → ℕ) (way : List Fork) (end : Tree) → SlotAsks has account s a place key spare r way end → Contains (1 ∷ map twigs_of way) n
