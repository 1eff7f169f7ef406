-- What lies below a root is moved, and the root stays where it is.
use Rattle.std.specs.Prelude.{◌≡◌, ℕ, ◌+◌, ◌*◌, ◌-◌, ◌≤◌, Bool, false, List, Option, length}
use Rattle.packed_node.specs.declared.Cell.{Cell}
use Rattle.packed_node.specs.declared.Node.{Node}
use Rattle.trie_model.specs.Capacity.{filled_cells}
use Rattle.trie_model.specs.Keys.{Entry}
use Rattle.trie_model.specs.Trees.{Tree}
use Rattle.chunk_usage.specs.Handing.{consumed}
use Rattle.chunk_usage.specs.Ledger.{Ledger, free_count}
use Rattle.chunk_usage.specs.Rooms.{reserve_account_of}
use Rattle.trie_space.specs.Spaces.{IsWritable, Ready}
use Rattle.evacuate.specs.Evacuations.{FillsNew, HasSparse}
use Rattle.evacuate.specs.Fillings.{Fills, Moves, IsUsedUp, is_old, old_chunks, old_live}
use Rattle.evacuate.specs.Moving.{LeavesRest, MovesCells}
use Rattle.evacuate.specs.Places.{Hangs, HangsIn, IsStood, Stood}

-- more may be moved
pub record CanRearrange {S : Type 0} (has : S → ℕ → Cell → Type 0) (kept : S → List ℕ) (given : S → List Bool) (r : ℕ) (s : S) (l : Ledger) : Type 0 where
  -- some trie stands at the root
  pub stands : IsStood has s l r
  -- the root's cell may be written
  pub writable : IsWritable given reserve_account_of s l r
  -- both know the same chunks as given, and what is kept is in use and immutable
  pub ready : Ready kept given reserve_account_of s l

-- a trie of the same entries stands there, cells were moved to chunks that were free, and more may be moved
pub record Rearranged {S : Type 0} (has : S → ℕ → Cell → Type 0) (kept : S → List ℕ) (given : S → List Bool) (r : ℕ) (s : S) (l : Ledger) (s_new : S) (l_new : Ledger) : Type 0 where
  pub stood : (es : List Entry) (t : Tree) → Stood has s l r es t → (u : Tree) × Stood has s_new l_new r es u
  pub cells : MovesCells has kept given s l s_new l_new

-- no chunk was free for something, so cells of a sparse chunk still count
pub record StopsShort (l l_new : Ledger) : Type 0 where
  pub full : IsUsedUp l_new
  pub left : (old : List Bool) → Fills old l → HasSparse l_new

-- ---- on the way down from a root

-- a way goes on from a cell on which this node hangs, and which may be written
pub record CanWalkOn {S : Type 0} (has : S → ℕ → Cell → Type 0) (kept : S → List ℕ) (given : S → List Bool) (r at : ℕ) (n : Node) (s : S) (l : Ledger) : Type 0 where
  -- some trie stands at the root
  pub stands : IsStood has s l r
  pub hangs : Hangs has s l r at n
  pub writable : IsWritable given reserve_account_of s l at
  pub ready : Ready kept given reserve_account_of s l

-- cells were moved, and a tree with this node hangs on the cell, which may be written
pub record OnWay {S : Type 0} (has : S → ℕ → Cell → Type 0) (kept : S → List ℕ) (given : S → List Bool) (r : ℕ) (s : S) (l : Ledger) (s_new : S) (l_new : Ledger) (at : ℕ) (n : Node) : Type 0 where
  pub way : (es : List Entry) (t : Tree) → Stood has s l r es t → HangsIn has s_new l_new r at es n
  pub writable : IsWritable given reserve_account_of s_new l_new at
  pub cells : MovesCells has kept given s l s_new l_new

-- ---- the root too

-- the root's cell may be moved, unless it lies in the chunk that is filled on
pub record CanBegin {S : Type 0} (has : S → ℕ → Cell → Type 0) (kept : S → List ℕ) (given : S → List Bool) (r : ℕ) (filled_on : Option ℕ) (s : S) (l : Ledger) : Type 0 where
  -- some trie stands at the root
  pub stood : IsStood has s l r
  -- nothing was moved yet
  pub fills : Fills (old_chunks l.given filled_on) l
  pub ready : Ready kept given reserve_account_of s l

-- the same trie stands at this cell, which lies in no old chunk and may be written
pub record RootCopied {S : Type 0} (has : S → ℕ → Cell → Type 0) (given : S → List Bool) (r : ℕ) (filled_on : Option ℕ) (s : S) (l : Ledger) (s_new : S) (l_new : Ledger) (at : ℕ) : Type 0 where
  pub stood : (es : List Entry) (t : Tree) → Stood has s l r es t → Stood has s_new l_new at es t
  pub elsewhere : is_old (old_chunks l.given filled_on) at ≡ false
  pub writable : IsWritable given reserve_account_of s_new l_new at
  pub moves : Moves (old_chunks l.given filled_on) 0 l l_new

-- Sparse chunks were emptied, and a trie of the same entries stands at another cell.
pub record Emptied {S : Type 0} (has : S → ℕ → Cell → Type 0) (kept : S → List ℕ) (given : S → List Bool) (r : ℕ) (s : S) (l : Ledger) (at : ℕ) (s_new : S) (l_new : Ledger) : Type 0 where
  pub stood : (es : List Entry) (t : Tree) → Stood has s l r es t → (u : Tree) × Stood has s_new l_new at es u
  -- new chunks are filled
  pub fills : FillsNew l l_new
  pub count : length l_new.given ≡ length l.given
  -- what was consumed is paid for by what chunks had that count, and by cells of old ones
  pub paid : consumed l_new ≤ filled_cells * (length l.given - free_count l) + old_live l.given l.live
  pub rest : LeavesRest has kept given reserve_account_of s l s_new l_new
