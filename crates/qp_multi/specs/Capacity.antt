-- How much is published and done of an index, and what its table then has room for.
use Rattle.std.specs.Prelude.{ℕ, ◌+◌, ◌-◌, ◌*◌, ◌≤◌, List, length, Contains}
use Rattle.trie_model.specs.Keys.{Entry}
use Rattle.trie_model.specs.Shape.{cells}
use Rattle.trie_model.specs.Capacity.{filled_cells, is_roomy}
use Rattle.chunk_usage.specs.Handing.{consumed}
use Rattle.chunk_usage.specs.Ledger.{Ledger, free_count}
use Rattle.shared_cells.specs.declared.view.Entry.{Entry as Commit}
use Rattle.shared_cells.specs.declared.view.Seen.{Seen}
use Rattle.shared_cells.specs.History.{StartsWith, version_after}
use Rattle.qp_multi.specs.declared.meaning.Operation.{Operation}
use Rattle.qp_multi.specs.Operations.{applied}
use Rattle.qp_multi.specs.Passes.{first_version}
use Rattle.qp_multi.specs.Crowds.{BoundsWork, EachSmall, RestsSmall, RowsAreFew, WorksSmall, most_met}

-- No version has more cells than so many, and no commit more operations.
pub record BoundsHistory (most_cells most_operations : ℕ) (seen : Seen (List Entry) (List Operation)) : Type 0 where
  pub versions : (part : List (Commit (List Operation))) → StartsWith seen.history part → cells (version_after applied (first_version seen) part) ≤ most_cells
  pub commits : (c : Commit (List Operation)) → Contains seen.history c → length c.change ≤ most_operations

-- What a turn keeps of this, whatever becomes known later.

-- how many chunks are given
abbrev pub given_count : Ledger → ℕ
given_count u = length u.given - free_count u

-- what a table has given at most while no transaction is under way: what the versions have that may be kept, and two
abbrev pub most_at_rest : Ledger → ℕ → ℕ
most_at_rest u cells = (u.passes + 1) * most_met cells + 2

-- for all numbers that bound a history and for which the usage's table has room
abbrev pub EachRoomy : Ledger → Seen (List Entry) (List Operation) → (ℕ → ℕ → Type 0) → Type 0
EachRoomy u seen so = (most_cells most_operations : ℕ) → 1 ≤ most_operations → BoundsHistory most_cells most_operations seen → is_roomy u.passes most_cells most_operations (length u.given) → so most_cells most_operations

-- no transaction is under way
pub record RestsRoomy (u : Ledger) (seen : Seen (List Entry) (List Operation)) : Type 0 where
  pub rows : EachRoomy u seen (λ most_cells _. RowsAreFew most_cells u.rows)
  pub given : EachRoomy u seen (λ most_cells _. given_count u ≤ most_at_rest u most_cells)
  pub rests : EachSmall u seen (λ most. RestsSmall most u)

-- One is, and has done these operations: of each at most 40 chunks were given.
pub record WorksRoomy (u : Ledger) (seen : Seen (List Entry) (List Operation)) (operations : List Operation) : Type 0 where
  pub rows : EachRoomy u seen (λ most_cells _. RowsAreFew most_cells u.rows)
  pub consumes : EachRoomy u seen (λ most_cells most_operations. length operations ≤ most_operations → consumed u ≤ filled_cells * (most_at_rest u most_cells + 40 * length operations))
  -- whatever the transaction does, what it began with stays
  pub rests : EachSmall u seen (λ most. RestsSmall most u)
  pub works : EachSmall u seen (λ most. BoundsWork most seen operations → WorksSmall most u)
