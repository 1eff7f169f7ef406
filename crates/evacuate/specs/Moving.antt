-- One move: what it needs, what it does, and what it leaves.
use Rattle.std.specs.Prelude.{◌≡◌, ℕ, ◌+◌, ◌-◌, ◌<◌, ◌≤◌, Bool, true, false, List}
use Rattle.packed_node.specs.declared.Cell.{Cell}
use Rattle.packed_node.specs.declared.Leaf.{Leaf}
use Rattle.packed_node.specs.declared.Node.{Node}
use Rattle.packed_node.specs.declared.Node.TheVariants as node
use Rattle.trie_model.specs.Extents.{IsRow}
use Rattle.trie_model.specs.Keys.{Entry}
use Rattle.trie_model.specs.Trees.{Tree}
use Rattle.chunk_usage.specs.Handing.{allocated}
use Rattle.chunk_usage.specs.Ledger.{Ledger}
use Rattle.chunk_usage.specs.Rooms.{Account, Handed, reserve_account_of}
use Rattle.trie_space.specs.Spaces.{Fenced, Frame, IsWritable, MayWrite, Ready}
use Rattle.evacuate.specs.Chains.{GoesOn, HoldsBehind, StandsAboveItem, StillGoesOn}
use Rattle.evacuate.specs.Fillings.{Fills, IsUsedUp, MovedIfDue, Moves, PaidIfOld, is_old}
use Rattle.evacuate.specs.Places.{IsHung, StandsAboveNode, StillHangs, Stood, first_of, first_width, width_of}

-- ---- what a move leaves

-- the rest is as it was, and more may be moved
pub record LeavesRest {S : Type 0} (has : S → ℕ → Cell → Type 0) (kept : S → List ℕ) (given : S → List Bool) (account : Ledger → Account) (s : S) (l : Ledger) (s_new : S) (l_new : Ledger) : Type 0 where
  -- none but mutable cells in use were written, and what is kept is kept
  pub frame : Fenced has kept given reserve_account_of s l s_new l_new
  -- cells and counts know the same chunks as given
  pub ready : Ready kept given account s_new l_new

-- cells were moved out of old chunks, or none were
pub record MovesCells {S : Type 0} (has : S → ℕ → Cell → Type 0) (kept : S → List ℕ) (given : S → List Bool) (s : S) (l : Ledger) (s_new : S) (l_new : Ledger) : Type 0 where
  -- whichever chunks are the old ones, all that was handed out is paid for by cells of theirs
  pub moves : (old : List Bool) → Fills old l → Moves old 0 l l_new
  -- none but mutable cells in use were written, and what is kept is kept
  pub frame : Fenced has kept given reserve_account_of s l s_new l_new
  -- cells and counts know the same chunks as given
  pub ready : Ready kept given reserve_account_of s_new l_new

-- there was no room to move it, and all is as it was
pub record Unmoved {S : Type 0} (s : S) (l : Ledger) (s_new : S) (l_new : Ledger) : Type 0 where
  pub full : IsUsedUp l_new
  pub same : s_new ≡ s
  pub unchanged : l_new ≡ l

-- ---- room for cells, and a copy

-- as many cells as a row of twigs, or an extent, may have
pub record IsLength (n : ℕ) : Type 0 where
  pub some : 0 < n
  pub few : n ≤ 256

-- n cells were asked for, and what they are to stand for isn't released yet
pub record AsksRoom {S : Type 0} (has : S → ℕ → Cell → Type 0) (kept : S → List ℕ) (given : S → List Bool) (n : ℕ) (s : S) (l : Ledger) (s_new : S) (l_new : Ledger) : Type 0 where
  -- every cell says what it said
  pub all : (q : ℕ) (c : Cell) → has s q c → has s_new q c
  -- they are handed out of the bump chunk or the lowest free one, if there is room
  pub after : l_new ≡ allocated 0 l n
  pub moves : (old : List Bool) → Fills old l → Moves old n l l_new
  pub frame : Frame has kept given reserve_account_of s l s_new l_new
  pub ready : Ready kept given reserve_account_of s_new l_new

-- n new cells begin here, outside of all old chunks, and may be written
pub record IsRoom {S : Type 0} (kept : S → List ℕ) (given : S → List Bool) (l : Ledger) (s_new : S) (l_new : Ledger) (at n : ℕ) : Type 0 where
  pub handed : Handed (reserve_account_of l) (reserve_account_of l_new) at n
  pub blank : MayWrite kept given s_new at n
  pub elsewhere : (old : List Bool) → Fills old l → is_old old at ≡ false

-- n cells from here on may be copied
pub record CanCopy {S : Type 0} (has : S → ℕ → Cell → Type 0) (kept : S → List ℕ) (given : S → List Bool) (from n : ℕ) (s : S) (l : Ledger) : Type 0 where
  pub length : IsLength n
  -- they lie in one chunk
  pub row : IsRow from n
  -- each says something, and is in use
  pub there : (i : ℕ) → i < n → (c : Cell) × has s (from + i) c
  pub in_use : (i : ℕ) → i < n → (reserve_account_of l).used (from + i) ≡ true
  -- cells and counts know the same chunks as given
  pub ready : Ready kept given reserve_account_of s l

-- new cells were asked for, and none but those were written
pub record TakesCells {S : Type 0} (has : S → ℕ → Cell → Type 0) (kept : S → List ℕ) (given : S → List Bool) (n : ℕ) (s : S) (l : Ledger) (s_new : S) (l_new : Ledger) : Type 0 where
  pub moves : (old : List Bool) → Fills old l → Moves old n l l_new
  pub frame : Frame has kept given reserve_account_of s l s_new l_new
  pub ready : Ready kept given reserve_account_of s_new l_new

-- n new cells begin at the second place, outside of all old chunks, and say what those from the first one on said
pub record IsCopied {S : Type 0} (has : S → ℕ → Cell → Type 0) (from n : ℕ) (s : S) (l : Ledger) (s_new : S) (l_new : Ledger) (to : ℕ) : Type 0 where
  pub handed : Handed (reserve_account_of l) (reserve_account_of l_new) to n
  pub copied : (i : ℕ) (c : Cell) → i < n → has s (from + i) c → has s_new (to + i) c
  pub elsewhere : (old : List Bool) → Fills old l → is_old old to ≡ false

-- ---- what hangs on a node

-- what hangs on a node may be moved, where the cell at a place says the node
pub record CanMove {S : Type 0} (has : S → ℕ → Cell → Type 0) (kept : S → List ℕ) (given : S → List Bool) (at : ℕ) (n : Node) (s : S) (l : Ledger) : Type 0 where
  pub hung : IsHung has s l at n
  pub writable : IsWritable given reserve_account_of s l at
  pub ready : Ready kept given reserve_account_of s l

-- it lies at another place now
pub record NodeMoved {S : Type 0} (has : S → ℕ → Cell → Type 0) (given : S → List Bool) (at : ℕ) (n : Node) (s : S) (l : Ledger) (s_new : S) (l_new : Ledger) (to : ℕ) : Type 0 where
  -- the cell above says so
  pub hung : StillHangs has at n s l s_new l_new to
  -- and it may be written there
  pub writable : (i : ℕ) → i < width_of n → IsWritable given reserve_account_of s_new l_new (to + i)
  -- if it lay in an old chunk, that has so many cells fewer that count
  pub paid : PaidIfOld l l_new (first_of n) (width_of n)

-- the first extent of a leaf's item lies here, where it did or moved
pub record FirstLies {S : Type 0} (has : S → ℕ → Cell → Type 0) (given : S → List Bool) (at : ℕ) (leaf : Leaf) (s : S) (l : Ledger) (s_new : S) (l_new : Ledger) (to : ℕ) : Type 0 where
  pub hung : StillHangs has at (node.Leaf leaf) s l s_new l_new to
  -- its link cell may be written, if it has one
  pub writable : 4096 < leaf.len → IsWritable given reserve_account_of s_new l_new (to + 255)
  pub if_due : MovedIfDue l l_new leaf.at

-- what hangs on a node was moved, as far as it was to be
pub record RearrangedNode {S : Type 0} (has : S → ℕ → Cell → Type 0) (kept : S → List ℕ) (given : S → List Bool) (at : ℕ) (n : Node) (s : S) (l : Ledger) (s_new : S) (l_new : Ledger) : Type 0 where
  -- a trie of the same entries stands at the root above it
  pub stood : StandsAboveNode has at n s l s_new l_new
  pub cells : MovesCells has kept given s l s_new l_new

-- ---- the extents behind one

-- what lies behind an extent may be moved, of which the item has so many octets from there on
pub record CanMoveBehind {S : Type 0} (has : S → ℕ → Cell → Type 0) (kept : S → List ℕ) (given : S → List Bool) (at n : ℕ) (s : S) (l : Ledger) : Type 0 where
  pub goes : GoesOn has s l at n
  -- the link cell
  pub writable : IsWritable given reserve_account_of s l (at + 255)
  pub ready : Ready kept given reserve_account_of s l

-- the extent behind lies at another place now
pub record ExtentMoved {S : Type 0} (has : S → ℕ → Cell → Type 0) (given : S → List Bool) (at n : ℕ) (s : S) (l : Ledger) (s_new : S) (l_new : Ledger) (to : ℕ) : Type 0 where
  -- the link cell says so
  pub goes : StillGoesOn has at n s l s_new l_new to
  pub writable : (i : ℕ) → i < first_width (n - 4080) → IsWritable given reserve_account_of s_new l_new (to + i)
  pub paid : HoldsBehind has s l at n (λ from. PaidIfOld l l_new from (first_width (n - 4080)))

-- the extent behind lies here, where it did or moved
pub record NextLies {S : Type 0} (has : S → ℕ → Cell → Type 0) (given : S → List Bool) (at n : ℕ) (s : S) (l : Ledger) (s_new : S) (l_new : Ledger) (to : ℕ) : Type 0 where
  pub goes : StillGoesOn has at n s l s_new l_new to
  pub writable : 4096 < n - 4080 → IsWritable given reserve_account_of s_new l_new (to + 255)
  pub if_due : HoldsBehind has s l at n (λ from. MovedIfDue l l_new from)

-- what lies behind an extent was moved, as far as it was to be
pub record RearrangedItem {S : Type 0} (has : S → ℕ → Cell → Type 0) (kept : S → List ℕ) (given : S → List Bool) (at n : ℕ) (s : S) (l : Ledger) (s_new : S) (l_new : Ledger) : Type 0 where
  pub stood : StandsAboveItem has at n s l s_new l_new
  pub cells : MovesCells has kept given s l s_new l_new

-- ---- the root's cell

-- it lies at another place now, outside of all old chunks
pub record RootMoved {S : Type 0} (has : S → ℕ → Cell → Type 0) (given : S → List Bool) (root : ℕ) (s : S) (l : Ledger) (s_new : S) (l_new : Ledger) (to : ℕ) : Type 0 where
  -- and the same trie stands there
  pub stood : (es : List Entry) (t : Tree) → Stood has s l root es t → Stood has s_new l_new to es t
  pub writable : IsWritable given reserve_account_of s_new l_new to
  pub elsewhere : (old : List Bool) → Fills old l → is_old old to ≡ false
  pub paid : PaidIfOld l l_new root 1
