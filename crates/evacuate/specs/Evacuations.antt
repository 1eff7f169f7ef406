-- What an evacuation promises.
use Rattle.std.specs.Prelude.{◌≡◌, ℕ, ◌+◌, ◌/◌, ◌<◌, ◌≤◌, true, false, Bool, List, Option, Some, slice_index}
use Rattle.packed_node.specs.declared.Cell.{Cell}
use Rattle.trie_model.specs.Capacity.{filled_cells}
use Rattle.trie_model.specs.Keys.{Entry}
use Rattle.trie_model.specs.Shape.{cells}
use Rattle.chunk_usage.specs.Counting.{is_sparse}
use Rattle.chunk_usage.specs.Ledger.{Ledger, filled, free_count, is_given, is_bump}
use Rattle.chunk_usage.specs.Rooms.{account_of}
use Rattle.trie_space.specs.Standing.{HasTrie}
use Rattle.evacuate.specs.declared.evacuation.EvacuationEnd.{EvacuationEnd}
use Rattle.evacuate.specs.declared.evacuation.EvacuationEnd.TheVariants.{Whole, Stopped}
use Rattle.evacuate.specs.Fillings.{Fills, IsUsedUp}

-- each chunk with a cell that counts, but the bump chunk, has over 256
abbrev pub IsDense : Ledger → Type 0
IsDense l = (chunk : ℕ) → 0 < slice_index l.live chunk → is_bump l.bump chunk ≡ false → 256 < slice_index l.live chunk

-- no cell of a sparse chunk counts
abbrev pub IsCleared : Ledger → Type 0
IsCleared l = (chunk : ℕ) → is_sparse l chunk ≡ true → slice_index l.live chunk ≡ 0

-- cells of a sparse chunk count
pub record HasSparse (l : Ledger) : Type 0 where
  pub chunk : ℕ
  pub sparse : is_sparse l chunk ≡ true
  pub some : 0 < slice_index l.live chunk

-- Each chunk that was given meanwhile is full of what was moved: all cells that were handed out of it count, and they are at least
-- `filled_cells` where it was left for another.
pub record FillsNew (old new : Ledger) : Type 0 where
  pub left : (k : ℕ) → is_given new k ≡ true → is_given old k ≡ false → is_bump new.bump k ≡ false → filled_cells ≤ slice_index new.live k
  pub bump : (k : ℕ) → is_bump new.bump k ≡ true → is_given old k ≡ false → filled new.bump ≤ slice_index new.live k

-- how many chunks were asked for in vain
abbrev pub refused : EvacuationEnd → ℕ
refused Whole = 0
refused Stopped = 1

-- how what lists led to was moved, unless some is left
pub record ListsEnd (l new : Ledger) (done : Option EvacuationEnd) : Type 0 where
  pub whole : done ≡ Some Whole → IsCleared new
  pub full : done ≡ Some Stopped → IsUsedUp new
  pub left : done ≡ Some Stopped → (given : List Bool) → Fills given l → HasSparse new

-- how emptying them ended: what is told is so
pub record Ended (new : Ledger) (done : EvacuationEnd) : Type 0 where
  pub whole : done ≡ Whole → IsCleared new
  pub full : done ≡ Stopped → IsUsedUp new
  pub left : done ≡ Stopped → HasSparse new

-- ---- what an evacuation says

-- the trie is the same, at the root that is answered
pub record CarriesTrie {S : Type 0} (has : S → ℕ → Cell → Type 0) (s : S) (l : Ledger) (root : Option ℕ) (s_new : S) (l_new : Ledger) (new : Option ℕ) (done : EvacuationEnd) : Type 0 where
  pub stands : (version : List Entry) → HasTrie has account_of s l root version → HasTrie has account_of s_new l_new new version
  -- for each `filled_cells` of its cells a chunk was asked for at most, and one more
  pub asks : (version : List Entry) → HasTrie has account_of s l root version → free_count l + refused done ≤ free_count l_new + (cells version / filled_cells + 1)

-- what became of the chunks
pub record EmptiesChunks (old new : Ledger) (done : EvacuationEnd) : Type 0 where
  -- where no cell of a sparse chunk counted nothing was done
  pub none : IsCleared old → new ≡ old
  pub fills : FillsNew old new
  -- no cell of a sparse chunk counts any more, or no chunk was free
  pub whole : done ≡ Whole → IsDense new
  pub stopped : done ≡ Stopped → IsUsedUp new
  pub left : done ≡ Stopped → HasSparse new
