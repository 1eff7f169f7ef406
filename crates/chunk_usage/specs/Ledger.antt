-- What is known of the chunks: which are given, how many of their cells count, and how that was at the last freeze.
use Rattle.std.specs.Prelude.{◌≡◌, ℕ, ◌+◌, ◌-◌, ◌/◌, ◌%◌, ◌<◌, ◌≤◌, min, nat_lt, nat_le, ◌==◌, Bool, true, false, not, ◌&&◌, ◌||◌, if◌then◌else◌, Option, None, Some, List, [], ◌∷◌, length, map, replicate, count_by, slice_index, slice_index_or}
use Rattle.std.specs.List.{AllByRecursion}
use Rattle.chunk_usage.specs.declared.bump.Bump.{Bump}

-- a kept version with its chunk set: of each chunk, whether the version has cells in it
pub record Row : Type 0 where
  pub version : ℕ
  pub chunks : List Bool

pub record Ledger : Type 0 where
  pub live : List ℕ  -- of each chunk, how many of its cells count
  pub given : List Bool  -- of each chunk, whether it is given
  pub since : List Bool  -- whether it was given since the last freeze
  pub bump : Option Bump  -- the bump chunk, which cells are handed out from
  pub last_live : List ℕ  -- the counts at the last freeze
  pub fender : Option Bump  -- the fender: the bump chunk at the last freeze
  pub rows : List Row  -- the kept versions, the oldest first
  pub passes : ℕ

-- the part of a ledger that freezes leave, and that nothing else but the dropping of a row changes
pub record Frozen : Type 0 where
  pub live : List ℕ
  pub bump : Option Bump
  pub rows : List Row
  pub passes : ℕ

abbrev pub frozen_part : Ledger → Frozen
frozen_part l = record { live = l.last_live; bump = l.fender; rows = l.rows; passes = l.passes }

-- the chunk is the bump chunk; how many of its cells are handed out, and how many are left
abbrev pub is_bump : Option Bump → ℕ → Bool
is_bump None chunk = false
is_bump (Some o) chunk = o.chunk == chunk

abbrev pub filled : Option Bump → ℕ
filled None = 0
filled (Some o) = o.filled

abbrev pub left : Option Bump → ℕ
left None = 0
left (Some o) = 1024 - o.filled

abbrev pub is_given : Ledger → ℕ → Bool
is_given l chunk = slice_index_or l.given chunk false

-- how many chunks are free, and how many are kept free
abbrev pub free_count : Ledger → ℕ
free_count l = count_by not l.given

abbrev pub reserve_of : Ledger → ℕ
reserve_of l = length l.given / 4

-- how many of those that are kept free are free
abbrev pub reserved : Ledger → ℕ
reserved l = min (free_count l) (reserve_of l)

-- the cell is handed out: its chunk is given, and if that is the bump chunk, it lies before those that are left
abbrev pub is_used : Ledger → ℕ → Bool
is_used l q = if is_bump l.bump (q / 1024) then nat_lt (q % 1024) (filled l.bump) else is_given l (q / 1024)

-- the cell was not handed out at the last freeze: its chunk was given since then, or was open then with this cell left
abbrev pub is_mutable : Ledger → ℕ → Bool
is_mutable l q = slice_index_or l.since (q / 1024) false || (is_bump l.fender (q / 1024) && nat_le (filled l.fender) (q % 1024))

-- the chunk set that the counts make: the chunks with a cell that counts
abbrev pub row_of : List ℕ → List Bool
row_of live = map (nat_lt 0) live

-- the kept version has cells in the chunk
abbrev pub is_in_row : Row → ℕ → Bool
is_in_row r chunk = slice_index_or r.chunks chunk false

-- the newest version, which is behind all others
abbrev pub newest : List Row → Option Row
newest [] = None
newest (r ∷ []) = Some r
newest (r ∷ s ∷ rows) = newest (s ∷ rows)

-- versions rise
abbrev pub Rising : List Row → Type 0
Rising [] = Unit {0}
Rising (r ∷ rows) = AllByRecursion (λ s. r.version < s.version) rows × Rising rows

-- What holds of each ledger.

-- the bump chunk is given, and no more of its cells count than are handed out
abbrev pub IsBump : List Bool → List ℕ → Option Bump → Type 0
IsBump given live None = Unit {0}
IsBump given live (Some o) = (o.filled ≤ 1024) × (slice_index_or given o.chunk false ≡ true) × (slice_index live o.chunk ≤ o.filled)

-- counts of cells: at most all of a chunk, and none of a free one
pub record AreCounts (given : List Bool) (live : List ℕ) : Type 0 where
  pub most : (k : ℕ) → slice_index live k ≤ 1024
  pub in_given : (k : ℕ) → 0 < slice_index live k → slice_index_or given k false ≡ true

-- the chunk set has a flag for each chunk, and only given chunks
pub record IsRowOf (given : List Bool) (r : Row) : Type 0 where
  pub wide : length r.chunks ≡ length given
  pub in_given : (k : ℕ) → is_in_row r k ≡ true → slice_index_or given k false ≡ true

-- the newest chunk set is that of the counts at the last freeze
abbrev pub IsNewest : List ℕ → Option Row → Type 0
IsNewest last_live None = (k : ℕ) → slice_index last_live k ≡ 0
IsNewest last_live (Some r) = r.chunks ≡ row_of last_live

pub record IsLedger (l : Ledger) : Type 0 where
  pub some : 1 ≤ length l.given
  pub few : length l.given ≤ 4096
  pub counted : length l.live ≡ length l.given
  pub known_since : length l.since ≡ length l.given
  pub counted_last : length l.last_live ≡ length l.given
  pub some_passes : 1 ≤ l.passes
  pub few_passes : l.passes ≤ 64
  pub counts : AreCounts l.given l.live
  pub last_counts : AreCounts l.given l.last_live
  pub opened : IsBump l.given l.live l.bump
  pub last_opened : IsBump l.given l.last_live l.fender
  -- none of the cells that the bump chunk has left was handed out at the last freeze
  pub left_mutable : (q : ℕ) → is_bump l.bump (q / 1024) ≡ true → filled l.bump ≤ q % 1024 → is_mutable l q ≡ true
  pub few_rows : length l.rows ≤ l.passes + 2
  pub rising : Rising l.rows
  pub rows_given : AllByRecursion (IsRowOf l.given) l.rows
  pub newest_row : IsNewest l.last_live (newest l.rows)

-- all chunks are free, and no version is kept
abbrev pub unused : ℕ → ℕ → Ledger
unused chunks passes = record {
  live = replicate chunks 0;
  given = replicate chunks false;
  since = replicate chunks false;
  bump = None;
  last_live = replicate chunks 0;
  fender = None;
  rows = [];
  passes = passes;
}
