-- Kept versions, and chunks that nothing reaches: what each call makes of a ledger.
use Rattle.std.specs.Prelude.{◌≡◌, ℕ, ◌+◌, ◌/◌, ◌<◌, ◌≤◌, true, nat_lt, ◌==◌, Bool, false, not, ◌&&◌, ◌||◌, Option, None, Some, List, [], ◌∷◌, ◌++◌, length, map, filter, replicate, slice_index, take, Contains}
use Rattle.std.specs.List.{AllByRecursion, list_any, range_with_len}
use Rattle.packed_node.specs.declared.Cell.{Cell}
use Rattle.chunk_sets.specs.ChunkSets.{has}
use Rattle.chunk_usage.specs.declared.bump.Bump.{Bump}
use Rattle.chunk_usage.specs.Ledger.{Ledger, Row, Rising, row_of, is_in_row, is_given, is_bump, free_count}

-- the bump chunk counts as filled
abbrev pub full : Option Bump → Option Bump
full None = None
full (Some o) = Some (record { chunk = o.chunk; filled = 1024 })

abbrev pub closed : Ledger → Ledger
closed l = record l { bump = full l.bump }

-- each version is older
abbrev pub AreOlder : List Row → ℕ → Type 0
AreOlder rows version = AllByRecursion (λ r. r.version < version) rows

-- the chunk set of the counts as they are is kept, for the version
abbrev pub frozen : Ledger → ℕ → Ledger
frozen l version = record l {
  since = replicate (length l.since) false;
  last_live = l.live;
  fender = l.bump;
  rows = l.rows ++ record { version = version; chunks = row_of l.live } ∷ [];
}

-- counts and bump chunk are as at the last freeze; what is given stays given
abbrev pub restored : Ledger → Ledger
restored l = record l { live = l.last_live; bump = l.fender }

-- it is that version; there is one
abbrev pub is_row_of : ℕ → Row → Bool
is_row_of version r = r.version == version

abbrev pub is_kept : List Row → ℕ → Bool
is_kept rows version = list_any (is_row_of version) rows

-- the version is gone
abbrev pub without_row : ℕ → List Row → List Row
without_row version rows = filter (λ r. not (is_row_of version r)) rows

abbrev pub dropped : Ledger → ℕ → Ledger
dropped l version = record l { rows = without_row version l.rows }

-- the version is in one of the first slots, which come in the order of their versions
pub record CanForget (slots : List Row) (rows version : ℕ) : Type 0 where
  pub within : rows ≤ length slots
  pub kept : is_kept (take rows slots) version ≡ true
  pub rising : Rising (take rows slots)

-- the version is one of these; the rows of these versions; and the ledger that has no others
abbrev pub is_among : List ℕ → ℕ → Bool
is_among versions version = list_any (λ v. v == version) versions

abbrev pub rows_of : List ℕ → List Row → List Row
rows_of versions rows = filter (λ r. is_among versions r.version) rows

abbrev pub narrowed : Ledger → List ℕ → Ledger
narrowed l versions = record l { rows = rows_of versions l.rows }

-- the numbers of the kept versions
abbrev pub kept_versions : Ledger → List ℕ
kept_versions l = map (λ r. r.version) l.rows

-- some kept version has cells in the chunk
abbrev pub is_in_rows : List Row → ℕ → Bool
is_in_rows rows chunk = list_any (λ r. is_in_row r chunk) rows

-- the chunk is the bump chunk or was it at the last freeze, has a cell that counts, or is in a kept version's chunk set
abbrev pub is_needed : Ledger → ℕ → Bool
is_needed l chunk = is_bump l.bump chunk || (is_bump l.fender chunk || (nat_lt 0 (slice_index l.live chunk) || is_in_rows l.rows chunk))

-- it is given, and nothing needs it
abbrev pub is_unreached : Ledger → ℕ → Bool
is_unreached l chunk = is_given l chunk && not (is_needed l chunk)

-- each such chunk is free
abbrev pub freed : Ledger → Ledger
freed l = record l { given = map (λ chunk. is_given l chunk && is_needed l chunk) (range_with_len 0 (length l.given)) }

-- the usage afterwards, of which so many chunks more are free
pub record FreesUnreached (old new : Ledger) (count : ℕ) : Type 0 where
  pub after : new ≡ freed old
  -- by chunk: what was given and is needed still is
  pub by_chunk : (k : ℕ) → is_given new k ≡ (is_given old k && is_needed old k)
  pub more : free_count new ≡ free_count old + count

-- these of the given chunks can be freed
pub record CanFree {S : Type 0} (kept : S → List ℕ) (given : S → List Bool) (chunks all : List Bool) (s : S) : Type 0 where
  -- they are no more than a table's
  pub few : length chunks ≤ 4096
  -- the cells know the same chunks as given
  pub same : given s ≡ all
  pub within : (k : ℕ) → has chunks k ≡ true → has all k ≡ true
  -- no kept version reaches into one
  pub unkept : (q : ℕ) → Contains (kept s) q → has chunks (q / 1024) ≡ false

-- chunks are freed
pub record FreesChunks {S : Type 0} (has : S → ℕ → Cell → Type 0) (kept : S → List ℕ) (given : S → List Bool) (gone : ℕ → Bool) (s s_new : S) (left : List Bool) : Type 0 where
  -- the cells know as given what is left
  pub same : given s_new ≡ left
  -- all others stay as they are
  pub others : (q : ℕ) (c : Cell) → gone (q / 1024) ≡ false → has s q c → has s_new q c
  -- what is kept is kept
  pub keeps : kept s_new ≡ kept s
