-- How few chunks the kept versions and the working set meet, where no set has more than 768 cells.
use Rattle.std.specs.Prelude.{ℕ, ◌+◌, ◌/◌, ◌<◌, ◌≤◌, nat_lt, Bool, ◌||◌, if◌then◌else◌, List, ◌∷◌, [], ◌++◌, length, Option, slice_index, count_by, take, All}
use Rattle.trie_model.specs.Extents.{row}
use Rattle.trie_model.specs.Keys.{Entry}
use Rattle.trie_model.specs.Shape.{cells}
use Rattle.chunk_usage.specs.declared.bump.Bump.{Bump}
use Rattle.chunk_usage.specs.Ledger.{Ledger, Row, free_count, is_bump, reserve_of}
use Rattle.shared_cells.specs.declared.view.Entry.{Entry as Commit}
use Rattle.shared_cells.specs.declared.view.Seen.{Seen}
use Rattle.shared_cells.specs.History.{StartsWith, version_after}
use Rattle.qp_multi.specs.declared.meaning.Operation.{Operation}
use Rattle.qp_multi.specs.Operations.{applied}
use Rattle.qp_multi.specs.Passes.{first_version, version_seen}

-- how many chunks a kept version has cells in
abbrev pub row_size : Row → ℕ
row_size r = count_by (λ (b : Bool). b) r.chunks

-- how many chunks a version has cells in at most: of these 257, or fewer in nine
abbrev pub most_met : ℕ → ℕ
most_met cells = cells / 257 + 9

abbrev pub RowsAreFew : ℕ → List Row → Type 0
RowsAreFew cells rows = All (λ r. row_size r ≤ most_met cells) rows

-- the chunk is the bump chunk, or has a cell that counts
abbrev pub is_met : List ℕ → Option Bump → ℕ → Bool
is_met live bump k = is_bump bump k || nat_lt 0 (slice_index live k)

-- how many chunks are so; and, of the base of a transaction, how many were so at the last freeze
abbrev pub met_in : ℕ → List ℕ → Option Bump → ℕ
met_in n live bump = row (λ k. if is_met live bump k then 1 else 0) 0 n

abbrev pub met_count : Ledger → ℕ
met_count u = met_in (length u.given) u.live u.bump

abbrev pub base_count : Ledger → ℕ
base_count u = met_in (length u.given) u.last_live u.fender

-- No call makes it more: a new bump chunk was free.
abbrev pub spread : Ledger → ℕ
spread u = met_count u + free_count u

-- what a transaction begins and ends with, where no set has more cells than so many
pub record RestsSmall (most : ℕ) (u : Ledger) : Type 0 where
  pub rows : RowsAreFew most u.rows
  pub base : base_count u ≤ most_met most

-- One is under way: the reserve is whole, or else the working set meets few chunks.
pub record WorksSmall (most : ℕ) (u : Ledger) : Type 0 where
  pub rests : RestsSmall most u
  pub met : free_count u < reserve_of u → met_count u ≤ most_met most

-- No set that was published, or that the first operations of a commit made on the way to it, has more cells than so many.
pub record BoundsWays (most : ℕ) (seen : Seen (List Entry) (List Operation)) : Type 0 where
  pub first : cells (first_version seen) ≤ most
  pub ways : (part : List (Commit (List Operation))) (entry : Commit (List Operation)) → StartsWith seen.history (part ++ entry ∷ [])
      → (n : ℕ) → cells (applied (version_after applied (first_version seen) part) (take n entry.change)) ≤ most

-- nor any that the first of these operations make of the version that was published last
abbrev pub BoundsWork : ℕ → Seen (List Entry) (List Operation) → List Operation → Type 0
BoundsWork most seen operations = (n : ℕ) → cells (applied (version_seen seen) (take n operations)) ≤ most

-- For all such numbers up to 768. An item of more cells than that fills more than one chunk, and what is moved may do so too.
abbrev pub EachSmall : Ledger → Seen (List Entry) (List Operation) → (ℕ → Type 0) → Type 0
EachSmall u seen so = (most : ℕ) → most ≤ 768 → 4 ≤ length u.given → BoundsWays most seen → so most
