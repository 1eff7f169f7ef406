-- How much a transaction does, and what its table then has room for.
use Rattle.std.specs.Prelude.{ℕ, ◌+◌, ◌-◌, ◌*◌, ◌/◌, ◌≤◌, List, length}
use Rattle.trie_model.specs.Shape.{cells}
use Rattle.trie_model.specs.Capacity.{filled_cells, is_roomy}
use Rattle.chunk_usage.specs.Ledger.{Ledger, reserve_of}
use Rattle.qp_multi.specs.declared.writer.WorkingVersion.{WorkingVersion}
use Rattle.qp_multi.specs.Capacity.{BoundsHistory, WorksRoomy}
use Rattle.qp_multi.specs.Crowds.{BoundsWays, BoundsWork, RowsAreFew, WorksSmall, met_count, most_met}
use Rattle.qp_multi.specs.WorkingVersions.{working_set}
use Rattle.qp_multi.specs.Tries.{PathHas}

-- No version up to a transaction's base has more cells than so many, and no commit more operations. Nor has the transaction done more so far.
pub record BoundsWorking (most_cells most_operations : ℕ) (d : WorkingVersion) : Type 0 where
  pub some : 1 ≤ most_operations
  pub history : BoundsHistory most_cells most_operations d.seat.place.me.0.seen
  pub operations : length d.log.operations ≤ most_operations

-- no numbers that bound what was published and done are such that the table has room for them
abbrev pub IsCramped : WorkingVersion → Type 0
IsCramped d = (most_cells most_operations : ℕ) → BoundsWorking most_cells most_operations d → is_roomy d.seat.passes most_cells most_operations (length d.usage.given) → ⊥

-- where numbers bound this and the working set, and the table has room for them, it is so
abbrev pub WhereRoomy : WorkingVersion → Type 0 → Type 0
WhereRoomy d so = (most_cells most_operations : ℕ) → BoundsWorking most_cells most_operations d → cells (working_set d) ≤ most_cells → is_roomy d.seat.passes most_cells most_operations (length d.usage.given) → so

-- what a transaction keeps of this between two calls
abbrev pub HasRoom : WorkingVersion → Type 0
HasRoom d = WorksRoomy d.usage d.seat.place.me.0.seen d.log.operations

-- ---- the same for sets of at most 768 cells, by what the call itself knows

-- No set that was published, or made on the way to it or by the transaction so far, has more cells than so many.
pub record BoundsSets (most : ℕ) (d : WorkingVersion) : Type 0 where
  pub history : BoundsWays most d.seat.place.me.0.seen
  pub work : BoundsWork most d.seat.place.me.0.seen d.log.operations

-- where a number up to 768 bounds this, it is so of that number
abbrev pub WhereSmall : WorkingVersion → (ℕ → Type 0) → Type 0
WhereSmall d so = (most : ℕ) → most ≤ 768 → 4 ≤ length d.usage.given → BoundsSets most d → so most

-- few kept versions and few chunks of the working set
pub record IsSmall (u : Ledger) (most : ℕ) : Type 0 where
  pub rows : RowsAreFew most u.rows
  pub met : met_count u ≤ most_met most

-- A call for a key finds no room, which writes so many cells beside the twigs on the key's path, while so many versions are kept: these,
-- the working set and what the call fills may have cells in as many chunks as there are but for the reserve.
pub record IsCrowded (d : WorkingVersion) (key : List ℕ) (written kept : ℕ) : Type 0 where
  pub path : ℕ
  pub on_path : PathHas d.seat.place.me.0 d.usage d.root key path
  pub few_twigs : path ≤ cells (working_set d)
  pub bound : WhereSmall d (λ most. length d.usage.given - reserve_of d.usage ≤ (kept + 1) * most_met most + 1 + (written + path) / filled_cells)

-- the same of a call by what it found, in numbers of the working version that it left
pub record Crowds (old d : WorkingVersion) (key : List ℕ) (written : ℕ) : Type 0 where
  pub path : ℕ
  pub on_path : PathHas d.seat.place.me.0 d.usage d.root key path
  pub few_twigs : path ≤ cells (working_set d)
  pub bound : (most : ℕ) → most ≤ 768 → 4 ≤ length old.usage.given → cells (working_set old) ≤ most → WorksSmall most old.usage
      → length d.usage.given - reserve_of d.usage ≤ (length d.usage.rows + 1) * most_met most + 1 + (written + path) / filled_cells

-- A call that makes room leaves few chunks met. It makes none of a working set with more cells.
abbrev pub StaysSmall : WorkingVersion → Ledger → Type 0
StaysSmall d n = (most : ℕ) → most ≤ 768 → 4 ≤ length d.usage.given → cells (working_set d) ≤ most → WorksSmall most d.usage → WorksSmall most n
