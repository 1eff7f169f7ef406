-- How many cells of each chunk count, and which chunks are sparse.
use Rattle.std.specs.Prelude.{◌≡◌, ℕ, ◌<◌, ◌≤◌, nat_lt, nat_le, Bool, false, not, ◌&&◌, if◌then◌else◌, Option, None, Some, List, map, length, count_by, slice_index, slice_index_or}
use Rattle.std.specs.List.{range_with_len}
use Rattle.chunk_sets.specs.ChunkSets.{has}
use Rattle.chunk_usage.specs.declared.bump.Bump.{Bump}
use Rattle.chunk_usage.specs.Ledger.{Ledger, is_given, is_bump, filled}

-- the counts now, and at the last freeze
pub record Counted : Type 0 where
  pub live : List ℕ
  pub last : List ℕ

-- few enough cells count for a chunk to be sparse
abbrev pub is_low : ℕ → Bool
is_low count = nat_le count 256

-- and some do
abbrev pub is_thin : ℕ → Bool
is_thin count = nat_lt 0 count && is_low count

-- of each chunk, whether it is so
abbrev pub thin_row : List ℕ → List Bool
thin_row live = map is_thin live

-- the chunk is given and not the bump chunk, and few of its cells count
abbrev pub is_sparse : Ledger → ℕ → Bool
is_sparse l chunk = is_given l chunk && (is_low (slice_index l.live chunk) && not (is_bump l.bump chunk))

-- the chunk is the bump chunk, was given since the last freeze, and all cells that were handed out of it count
abbrev pub is_unmixed : Ledger → ℕ → Bool
is_unmixed l chunk = is_bump l.bump chunk && (slice_index_or l.since chunk false && nat_le (filled l.bump) (slice_index l.live chunk))

-- how many chunks are sparse
abbrev pub sparse_count : Ledger → ℕ
sparse_count l = count_by (is_sparse l) (range_with_len 0 (length l.given))

-- 1 where the bump chunk has few cells that count
abbrev pub bump_low : List ℕ → Option Bump → ℕ
bump_low live None = 0
bump_low live (Some o) = if is_low (slice_index live o.chunk) then 1 else 0

-- a chunk of which so many cells count, among the chunks with a cell that counts, and how many these are
pub record IsMarked (counted : List Bool) (used chunk before : ℕ) : Type 0 where
  pub inside : chunk < length counted
  -- it is one of them just where some do
  pub was : has counted chunk ≡ nat_lt 0 before
  -- they are no more than a table's chunks
  pub few : used ≤ 4096
  -- it is counted where it is one
  pub some : (if nat_lt 0 before then 1 else 0) ≤ used
