-- How a call makes room: by rounds, by freeing chunks, and by moving what lies in sparse ones.
use Rattle.std.specs.Prelude.{◌≡◌, ◌⊎◌, ℕ, ◌+◌, ◌/◌, ◌≤◌, List, Option, All, Contains, length}
use Rattle.atomic_table.specs.Seated.{TableId}
use Rattle.pin_core.specs.Words.{words_for}
use Rattle.trie_model.specs.Capacity.{filled_cells}
use Rattle.trie_model.specs.Keys.{Entry}
use Rattle.trie_model.specs.Shape.{cells}
use Rattle.chunk_usage.specs.Keeping.{freed, kept_versions, narrowed}
use Rattle.chunk_usage.specs.Ledger.{Ledger, free_count}
use Rattle.evacuate.specs.declared.evacuation.EvacuationEnd.{EvacuationEnd}
use Rattle.evacuate.specs.Evacuations.{refused}
use Rattle.shared_cells.specs.declared.turn.JoinedSeat.{JoinedSeat}
use Rattle.shared_cells.specs.Cells.{with_words}
use Rattle.shared_cells.specs.Steps.{IsNamed}
use Rattle.shared_cells.specs.Views.{kept_in, words_of}
use Rattle.qp_multi.specs.declared.writer.WorkingVersion.{WorkingVersion}
use Rattle.qp_multi.specs.declared.meaning.Operation.{Operation}
use Rattle.qp_multi.specs.Bases.{StandsFor}
use Rattle.qp_multi.specs.WorkingVersions.{Works, working_set}
use Rattle.qp_multi.specs.Fulls.{version_at}
use Rattle.qp_multi.specs.Keepings.{GoesOn, KeptBy}
use Rattle.qp_multi.specs.Meanings.{IsVersion}
use Rattle.qp_multi.specs.Movings.{Evacuates}
use Rattle.qp_multi.specs.Passes.{Known}
use Rattle.qp_multi.specs.Turns.{Agrees, cells_with, current_root}

-- ---- of a working version

-- the working set is the same, and its seat is in the same place
pub record IsSameSet (old new : WorkingVersion) : Type 0 where
  pub table : new.seat.place.table_id ≡ old.seat.place.table_id
  -- the root stands for the working set
  pub works : Works new
  pub log : new.log.operations ≡ old.log.operations
  pub version : new.seat.version ≡ old.seat.version
  pub passes : new.seat.passes ≡ old.seat.passes

-- nothing becomes known
pub record KnowsSame (v w : Known) : Type 0 where
  pub goes_on : GoesOn v w
  pub seen : w.seen ≡ v.seen
  -- the same versions are kept
  pub versions : kept_in w.turn ≡ kept_in v.turn

-- what lay in sparse chunks was moved
pub record MovesSparse (old new : WorkingVersion) (done : EvacuationEnd) : Type 0 where
  pub evacuates : Evacuates old.usage new.usage done
  -- a chunk was asked for, or taken, for each `filled_cells` at most, and one more
  pub asks : free_count old.usage + refused done ≤ free_count new.usage + (cells (working_set old) / filled_cells + 1)

-- ---- of a seat that has joined the turn

abbrev pub Seat : Type 0
Seat = JoinedSeat (List Entry) (List Operation)

-- it is at this table, and the usage is of its chunks
pub record IsSeatOf (there : TableId) (seat : Seat) (u : Ledger) : Type 0 where
  pub table : seat.place.table_id ≡ there
  pub wide : words_for (length u.given) ≡ seat.place.table_id.words
  pub agrees : Agrees (cells_with u seat.place.me.0.turn) u seat.passes

-- none but words of the table were written
pub record HasOtherWords (old new : Seat) : Type 0 where
  pub table : new.place.table_id ≡ old.place.table_id
  pub known : new.place.me.0 ≡ with_words old.place.me.0 (words_of new.place.me.0.turn)
  pub passes : new.passes ≡ old.passes

-- chunks that nothing needs, so many, were freed
pub record Frees (seat : Seat) (u n : Ledger) (passes count : ℕ) : Type 0 where
  pub after : n ≡ freed u
  pub counts : free_count n ≡ free_count u + count
  pub agrees : Agrees (cells_with n seat.place.me.0.turn) n passes

-- a round was made at it
pub record MakesRound (old new : Seat) : Type 0 where
  pub table : new.place.table_id ≡ old.place.table_id
  pub version : new.version ≡ old.version
  pub passes : new.passes ≡ old.passes
  pub number : new.number ≡ old.number
  -- namings became known, and nothing else
  pub goes_on : GoesOn old.place.me.0 new.place.me.0
  pub words : words_of new.place.me.0.turn ≡ words_of old.place.me.0.turn

-- the usage has the rows of the versions that it keeps
pub record Narrows (seat : Seat) (u n : Ledger) (passes : ℕ) : Type 0 where
  pub usage : n ≡ narrowed u (kept_versions n)
  pub agrees : Agrees (cells_with n seat.place.me.0.turn) n passes

-- the round keeps these versions
pub record Keeps (old new : Seat) (versions : List ℕ) : Type 0 where
  pub kept : KeptBy old.version old.passes old.place.me.0.seen.namings new.place.me.0.seen.namings versions
  -- the current one, which is the last, and others that some pass was found reading
  pub named : (v : ℕ) → Contains versions v → (v ≡ old.version) ⊎ IsNamed new.place.me.0 v
  pub root : current_root (kept_in new.place.me.0.turn) ≡ current_root (kept_in old.place.me.0.turn)
  -- the image of each is that version
  pub images : All (λ k. IsVersion k.image k.root (version_at old.place.me.0 k.version)) (kept_in new.place.me.0.turn)

-- ---- of a seat whose cells are read

-- it is at this table, and a trie stands at the root
pub record CanRead (there : TableId) (seat : Seat) (u : Ledger) (root : Option ℕ) : Type 0 where
  pub table : seat.place.table_id ≡ there
  pub wide : words_for (length u.given) ≡ seat.place.table_id.words
  pub stands : (es : List Entry) × StandsFor seat.place.me.0 u root es

-- it is in the same place, and knows as much
pub record IsSeatedStill (old new : Seat) : Type 0 where
  pub table : new.place.table_id ≡ old.place.table_id
  pub known : new.place.me.0 ≡ old.place.me.0
  pub passes : new.passes ≡ old.passes
