-- A compaction: a transaction that changes no entry.
use Rattle.std.specs.Prelude.{◌≡◌, ◌≢◌, ◌+◌, ℕ, List}
use Rattle.atomic_table.specs.Seated.{TableId}
use Rattle.pin_core.specs.declared.version.TheConstants.{LAST_VERSION}
use Rattle.pin_core.specs.declared.version.Spent.{Spent}
use Rattle.trie_model.specs.Keys.{Entry}
use Rattle.shared_cells.specs.Views.{pass_of}
use Rattle.qp_multi.specs.declared.commit.Receipt.{Receipt}
use Rattle.qp_multi.specs.declared.writer.WorkingVersion.{WorkingVersion}
use Rattle.qp_multi.specs.Passes.{Known}
use Rattle.qp_multi.specs.WorkingVersions.{Begins, Commits}
use Rattle.qp_multi.specs.Receipts.{Recycles}

-- A transaction of an index on this table, of so many passes, began, and was committed with no operation done. What lay in any sparse
-- chunk was moved first, as the receipt says.
pub record Compacts (lawful : List Entry → List Entry → Type 0) (table : TableId) (passes : ℕ) (before after : Known) (r : Receipt) : Type 0 where
  pub working : WorkingVersion
  pub here : working.seat.place.table_id ≡ table
  pub passes_are : working.seat.passes ≡ passes
  pub begins : Begins lawful before working
  pub commits : Commits working.seat.place.me.0 working.log.operations after
  pub version : r.version ≡ working.seat.version + 1
  pub next : r.version ≢ LAST_VERSION + 1
  pub recycles : Recycles 0 working after r

-- It began, and went back to its base, since the base has the last number.
pub record IsLast (lawful : List Entry → List Entry → Type 0) (before after : Known) (s : Spent) : Type 0 where
  pub working : WorkingVersion
  pub begins : Begins lawful before working
  pub back : after ≡ pass_of working.seat.place.me.0
  pub version : s.version ≡ working.seat.version
  pub last : s.version ≡ LAST_VERSION
