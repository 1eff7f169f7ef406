-- How a transaction begins.
use Rattle.std.specs.Prelude.{◌≡◌, ℕ, List, [], Option}
use Rattle.trie_model.specs.Keys.{Entry}
use Rattle.qp_multi.specs.declared.writer.WriterAtRest.{WriterAtRest}
use Rattle.qp_multi.specs.declared.writer.WorkingVersion.{WorkingVersion}
use Rattle.qp_multi.specs.Bases.{CommitsAreWithin, Joined, StandsFor}
use Rattle.qp_multi.specs.Capacity.{RestsRoomy}
use Rattle.qp_multi.specs.Passes.{Known, version_seen}

-- A pass that knew this has joined the turn of a writer at rest.
pub record JoinsWriter (law : List Entry → List Entry → Type 0) (most : Option ℕ) (before : Known) (writer : WriterAtRest) (d : WorkingVersion) : Type 0 where
  -- at the same table, of an index of as many passes
  pub table : d.seat.place.table_id ≡ writer.seat.place.table_id
  pub passes : d.seat.passes ≡ writer.seat.passes
  -- it knows what it knew and what the turn does
  pub joined : Joined law before d.seat.place.me.0
  -- no commit has more operations than the most, where there is one
  pub few_operations : CommitsAreWithin most d.seat.place.me.0

-- The working version's working set is its base, the writer at rest's current version.
pub record IsAtBase (writer : WriterAtRest) (d : WorkingVersion) : Type 0 where
  pub usage : d.usage ≡ writer.usage
  -- nothing was done
  pub log : d.log.operations ≡ []
  -- the table is as roomy as between two transactions
  pub rests : RestsRoomy d.usage d.seat.place.me.0.seen
  pub stands : StandsFor d.seat.place.me.0 d.usage d.root (version_seen d.seat.place.me.0.seen)
