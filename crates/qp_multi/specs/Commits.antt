-- What the steps of a commit need and leave.
use Rattle.std.specs.Prelude.{◌≡◌, ◌+◌, ◌^◌, ◌<◌, ◌≤◌, ℕ, Bool, true, false, List, Option, All}
use Rattle.pin_core.specs.declared.version.Spent.{Spent}
use Rattle.atomic_table.specs.Seated.{TableId}
use Rattle.trie_model.specs.Keys.{Entry}
use Rattle.chunk_usage.specs.Ledger.{free_count}
use Rattle.shared_cells.specs.declared.turn.JoinedSeat.{JoinedSeat}
use Rattle.shared_cells.specs.Views.{kept_in, pass_of}
use Rattle.qp_multi.specs.declared.commit.Receipt.{Receipt}
use Rattle.qp_multi.specs.declared.writer.WorkingVersion.{WorkingVersion}
use Rattle.qp_multi.specs.declared.meaning.Operation.{Operation}
use Rattle.qp_multi.specs.Bounds.{HasRoom, IsSmall, WhereRoomy, WhereSmall}
use Rattle.qp_multi.specs.Capacity.{EachRoomy}
use Rattle.qp_multi.specs.Crowds.{RowsAreFew}
use Rattle.qp_multi.specs.WorkingVersions.{Commits, Works, working_set}
use Rattle.qp_multi.specs.Movings.{FewThin}
use Rattle.qp_multi.specs.Operations.{AreWithin}
use Rattle.qp_multi.specs.Passes.{Known, first_version}
use Rattle.qp_multi.specs.Receipts.{Publishes, Recycles}

-- a working version may be committed, which leaves so many chunks sparse
pub record CanCommit (law : List Entry → List Entry → Type 0) (most_operations : Option ℕ) (at : TableId) (most : ℕ) (d : WorkingVersion) : Type 0 where
  pub table : d.seat.place.table_id ≡ at
  pub works : Works d
  pub room : HasRoom d
  pub few : most ≤ 8
  -- the law has it that the working set may be a version, by so many operations
  pub lawful : law (first_version d.seat.place.me.0.seen) (working_set d)
  pub few_operations : AreWithin most_operations d.log.operations

-- it was
pub record IsCommitted (most : ℕ) (d : WorkingVersion) (after : Known) (r : Receipt) : Type 0 where
  -- the pass knows its commit, behind the base's
  pub commits : Commits d.seat.place.me.0 d.log.operations after
  pub version : r.version ≡ d.seat.version + 1
  -- what the receipt tells is so
  pub receipt : Recycles most d after r

-- it wasn't, for all numbers are spent: the pass is back
pub record IsSpent (d : WorkingVersion) (after : Known) (s : Spent) : Type 0 where
  pub back : after ≡ pass_of d.seat.place.me.0
  -- the base, which is the last version that there can be
  pub last : s.version ≡ d.seat.version

-- ---- the next number

-- nothing was done to a working version
pub record IsUntouched (old new : WorkingVersion) : Type 0 where
  -- its seat is as it was
  pub table : new.seat.place.table_id ≡ old.seat.place.table_id
  pub known : new.seat.place.me.0 ≡ old.seat.place.me.0
  pub version : new.seat.version ≡ old.seat.version
  -- and so is what it has
  pub usage : new.usage ≡ old.usage
  pub base : new.base ≡ old.base
  pub root : new.root ≡ old.root
  pub log : new.log.operations ≡ old.log.operations

-- ---- what is moved before

-- what a working version has in sparse chunks may be moved, where these are more than so many
pub record CanSettle (at : TableId) (most : ℕ) (d : WorkingVersion) : Type 0 where
  pub table : d.seat.place.table_id ≡ at
  pub works : Works d
  pub few : most ≤ 8

-- the turn is where it was
pub record KeepsTurn (old new : WorkingVersion) : Type 0 where
  pub table : new.seat.place.table_id ≡ old.seat.place.table_id
  pub version : new.seat.version ≡ old.seat.version
  -- the same versions are kept
  pub versions : kept_in new.seat.place.me.0.turn ≡ kept_in old.seat.place.me.0.turn

-- what is left in sparse chunks, by whether all was moved
pub record LeavesFew (most : ℕ) (d : WorkingVersion) (whole : Bool) : Type 0 where
  -- no more than so many chunks have a cell that counts and few of them
  pub few : whole ≡ true → FewThin most d.usage
  -- or no chunk was free
  pub stopped : whole ≡ false → free_count d.usage ≡ 0

-- the same where the table had room for what was published and done
pub record SettlesRoomy (first d : WorkingVersion) (whole : Bool) : Type 0 where
  -- then all was moved
  pub roomy : HasRoom first → WhereRoomy first (whole ≡ true)
  -- and small sets meet few chunks
  pub small : HasRoom first → WhereSmall first (IsSmall d.usage)

-- ---- what is published

-- a working version may be published
pub record CanBePublished (law : List Entry → List Entry → Type 0) (most : Option ℕ) (at : TableId) (d : WorkingVersion) : Type 0 where
  pub table : d.seat.place.table_id ≡ at
  -- its base is the newest of the kept versions, and there is a next number
  pub newest : All (λ k. k.version ≤ d.seat.version) (kept_in d.seat.place.me.0.turn)
  pub next : d.seat.version + 1 < 2 ^ 40
  pub works : Works d
  -- the law has it that the working set may be a version, by so many operations
  pub lawful : law (first_version d.seat.place.me.0.seen) (working_set d)
  pub few_operations : AreWithin most d.log.operations

-- and its table is roomy then, where it is for what was published and done
pub record LeavesRoom (d : WorkingVersion) : Type 0 where
  -- few chunks are met by each kept version
  pub rows : EachRoomy d.usage d.seat.place.me.0.seen (λ most_cells _. RowsAreFew most_cells d.usage.rows)
  -- few have few cells of the working set
  pub thin : WhereRoomy d (FewThin 8 d.usage)
  -- and small sets meet few
  pub small : WhereSmall d (IsSmall d.usage)

-- the joined seat is the same still
pub record IsSameSeat (old new : JoinedSeat (List Entry) (List Operation)) : Type 0 where
  pub table : new.place.table_id ≡ old.place.table_id
  -- of the same pass, of an index of as many
  pub number : new.number ≡ old.number
  pub passes : new.passes ≡ old.passes

-- The receipt is of this working version, as it was settled.
pub record IsReceipt (d : WorkingVersion) (settled : Bool) (after : Known) (r : Receipt) : Type 0 where
  pub version : r.version ≡ d.seat.version + 1
  -- whether all was moved before
  pub whole : r.whole ≡ settled
  -- what it tells of the round is so
  pub publishes : Publishes d after r
