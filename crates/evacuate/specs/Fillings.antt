-- The chunks that an evacuation finds given, and those that it fills.
use Rattle.std.specs.Prelude.{◌≡◌, ◌⊎◌, ℕ, ◌+◌, ◌/◌, ◌<◌, ◌≤◌, ◌==◌, Bool, true, false, Option, None, Some, List, [], ◌∷◌, length, if◌then◌else◌, slice_index, slice_index_or, slice_set}
use Rattle.trie_model.specs.Capacity.{filled_cells}
use Rattle.chunk_usage.specs.declared.bump.Bump.{Bump}
use Rattle.chunk_usage.specs.Counting.{is_sparse, is_unmixed}
use Rattle.chunk_usage.specs.Ledger.{Ledger, is_given, is_bump, filled}
use Rattle.chunk_usage.specs.Handing.{IsShort, consumed}
use Rattle.chunk_usage.specs.Keeping.{closed}

-- the cell lies in a chunk that the evacuation found given, and doesn't fill
abbrev pub is_old : List Bool → ℕ → Bool
is_old given q = slice_index_or given (q / 1024) false

-- The chunk that an evacuation fills on: the bump chunk, where it was given since the last freeze and all that was handed out of it counts.
abbrev pub filled_on_of : Ledger → Option Bump → Option ℕ
filled_on_of l None = None
filled_on_of l (Some o) = if is_unmixed l o.chunk then Some o.chunk else None

abbrev pub filled_on : Ledger → Option ℕ
filled_on l = filled_on_of l l.bump

-- the chunk is that one; and those chunks but that one
abbrev pub is_filled_on : Option ℕ → ℕ → Bool
is_filled_on None k = false
is_filled_on (Some chunk) k = chunk == k

abbrev pub old_chunks : List Bool → Option ℕ → List Bool
old_chunks given None = given
old_chunks given (Some chunk) = slice_set given chunk false

-- where it fills none on, the bump chunk counts as filled
abbrev pub begun : Ledger → Option ℕ → Ledger
begun l None = closed l
begun l (Some chunk) = l

-- how many cells of those chunks count
abbrev pub old_live : List Bool → List ℕ → ℕ
old_live [] live = 0
old_live (g ∷ given) [] = 0
old_live (g ∷ given) (n ∷ live) = (if g then n else 0) + old_live given live

-- Cells are handed out of new chunks alone. Each new chunk that is left for another has at least `filled_cells` that count, and of the bump
-- chunk all that are handed out do.
pub record Fills (given : List Bool) (l : Ledger) : Type 0 where
  pub count : length l.given ≡ length given
  pub stays : (k : ℕ) → slice_index_or given k false ≡ true → is_given l k ≡ true
  pub recent : (k : ℕ) → is_given l k ≡ true → slice_index_or given k false ≡ false → slice_index_or l.since k false ≡ true
  pub left : (k : ℕ) → is_given l k ≡ true → slice_index_or given k false ≡ false → is_bump l.bump k ≡ false → filled_cells ≤ slice_index l.live k
  pub bump : (k : ℕ) → is_bump l.bump k ≡ true → slice_index_or given k false ≡ false → filled l.bump ≤ slice_index l.live k
  pub closed : (k : ℕ) → is_bump l.bump k ≡ true → slice_index_or given k false ≡ true → filled l.bump ≡ 1024

-- Cells were moved, and n more were asked for. Each cell that was asked for and is in its place has one less count in the old chunks.
-- A chunk that was sparse stays so.
pub record Moves (given : List Bool) (n : ℕ) (l new : Ledger) : Type 0 where
  pub fills : Fills given new
  pub sparse : (k : ℕ) → is_sparse l k ≡ true → is_sparse new k ≡ true
  pub fewer : old_live given new.live ≤ old_live given l.live
  pub paid : consumed new + old_live given new.live ≤ consumed l + old_live given l.live + n

-- and they were moved whole
pub record Paid (given : List Bool) (n : ℕ) (l new : Ledger) : Type 0 where
  pub moves : Moves given 0 l new
  pub less : old_live given new.live + n ≤ old_live given l.live

-- where the first of n cells lay in an old chunk, they were moved whole
abbrev pub PaidIfOld : Ledger → Ledger → ℕ → ℕ → Type 0
PaidIfOld l new from n = (given : List Bool) → Fills given l → is_old given from ≡ true → Paid given n l new

-- no chunk is free, and the bump chunk has fewer cells left than some row or item needs
pub record IsUsedUp (l : Ledger) : Type 0 where
  pub needed : ℕ
  pub few : needed ≤ 256
  pub short : IsShort 0 l needed

-- something was moved: fewer cells of old chunks count
abbrev pub Fewer : Ledger → Ledger → Type 0
Fewer l new = (given : List Bool) → Fills given l → old_live given new.live < old_live given l.live

-- what begins at a cell was moved; or it lies in no sparse chunk, and all is as it was
abbrev pub MovedIfDue : Ledger → Ledger → ℕ → Type 0
MovedIfDue l new from = Fewer l new ⊎ ((is_sparse l (from / 1024) ≡ false) × (new ≡ l))
