-- What a transaction's calls are given, and what they leave.
use Rattle.std.specs.Prelude.{◌≡◌, ◌≢◌, ℕ, ◌+◌, Bool, List, Option, Result, MatchResult, length}
use Rattle.atomic_table.specs.Seated.{TableId}
use Rattle.pin_core.specs.declared.version.TheConstants.{LAST_VERSION}
use Rattle.pin_core.specs.declared.version.Spent.{Spent}
use Rattle.trie_model.specs.Extents.{cells_in}
use Rattle.trie_model.specs.Keys.{Entry, InList}
use Rattle.shared_cells.specs.declared.pass.PassSeat.{PassSeat}
use Rattle.shared_cells.specs.declared.view.TableSize.{TableSize}
use Rattle.qp_multi.specs.declared.commit.Receipt.{Receipt}
use Rattle.qp_multi.specs.declared.writer.WorkingVersion.{WorkingVersion}
use Rattle.qp_multi.specs.declared.meaning.Named.{Ghosts}
use Rattle.qp_multi.specs.declared.meaning.Operation.{Operation}
use Rattle.qp_multi.specs.declared.meaning.Operation.TheVariants as operation
use Rattle.qp_multi.specs.declared.refusal.OutOfSpace.{OutOfSpace}
use Rattle.qp_multi.specs.declared.transaction.Transaction.{Transaction}
use Rattle.qp_multi.specs.Attempts.{Does}
use Rattle.qp_multi.specs.Bases.{CommitsAreWithin}
use Rattle.qp_multi.specs.Bounds.{IsCramped, IsCrowded}
use Rattle.qp_multi.specs.WorkingVersions.{Begins, Between, Commits, IsBack, IsFull}
use Rattle.qp_multi.specs.Fulls.{CausedFrom}
use Rattle.qp_multi.specs.Keepings.{versions_in}
use Rattle.qp_multi.specs.Kinds.{StartsAs}
use Rattle.qp_multi.specs.Passes.{Known, known_at}
use Rattle.qp_multi.specs.Receipts.{Recycles}

-- ---- where it is

module _ {X : Type 0} {Y : Type 0} {N : Ghosts Y} {K : Type 0} where
  -- it is of the same pass and the same turn as before
  pub record IsOfSame (old new : Transaction X Y K N) : Type 0 where
    pub home : new.home.ghost_name ≡ old.home.ghost_name
    pub locked : new.locked.ghost_name ≡ old.locked.ghost_name
    -- and of the same index
    pub place : new.locked.now.place ≡ old.locked.now.place

  -- both have a working version, and these are so related
  abbrev pub OnWorkings : (WorkingVersion → WorkingVersion → Type 0) → Transaction X Y K N → Transaction X Y K N → Type 0
  OnWorkings related old new = Between related old.locked.now.working new.locked.now.working

-- ---- it begins

-- a pass has joined the turn of this table
pub record Joins (lawful : List Entry → List Entry → Type 0) (there : TableId) (size : TableSize) (before : Known) (d : WorkingVersion) : Type 0 where
  pub table : d.seat.place.table_id ≡ there
  pub begins : Begins lawful before d
  pub passes : d.seat.passes ≡ size.passes
  pub chunks : length d.usage.given ≡ size.chunks

-- so it does by its kind, in a table of this size
pub record BeginsAs (own_chunk : Bool) (size : TableSize) (most : Option ℕ) (d : WorkingVersion) : Type 0 where
  pub passes : d.seat.passes ≡ size.passes
  pub chunks : length d.usage.given ≡ size.chunks
  -- no commit has more operations than the most
  pub few_operations : CommitsAreWithin most d.seat.place.me.0
  -- what is written begins a chunk of its own, or doesn't
  pub starts : StartsAs own_chunk d.usage

-- ---- an operation is done, or refused

-- the key is there, or isn't
abbrev pub HasEntryOf : List ℕ → List Entry → Type 0
HasEntryOf key es = (x : Entry) × InList x es × (x.key ≡ key)

abbrev pub LacksEntryOf : List ℕ → List Entry → Type 0
LacksEntryOf key es = (x : Entry) → InList x es → x.key ≡ key → ⊥

-- The call was to put a name in, which is refused where its key is there.
abbrev pub Inserts : List ℕ → List ℕ → Type 0 → Type 0 → WorkingVersion → WorkingVersion → Type 0
Inserts key item is_done is_denied old new = Does (operation.Insert (record { key = key; item = item })) (HasEntryOf key) old new is_done is_denied

-- It was to exchange its item, or to take it out, which is refused where its key isn't there.
abbrev pub Replaces : List ℕ → List ℕ → Type 0 → Type 0 → WorkingVersion → WorkingVersion → Type 0
Replaces key item is_done is_denied old new = Does (operation.Replace (record { key = key; item = item })) (LacksEntryOf key) old new is_done is_denied

abbrev pub Deletes : List ℕ → Type 0 → Type 0 → WorkingVersion → WorkingVersion → Type 0
Deletes key is_done is_denied old new = Does (operation.Delete key) (LacksEntryOf key) old new is_done is_denied

-- ---- an operation finds no room

-- The call was for a key, and writes so many cells beside the twigs on its path.
pub record IsOutOfRoom (key : List ℕ) (written : ℕ) (asks : List ℕ → List ℕ) (f : OutOfSpace) (old d : WorkingVersion) : Type 0 where
  -- the usage refuses this request
  pub full : IsFull d f
  -- so it did when the call had made room
  pub cause : CausedFrom old d key written asks f
  -- the table hasn't room for what was published and done
  pub cramped : IsCramped old
  -- small sets meet as many chunks as there are but for the reserve
  pub crowded : IsCrowded d key written (length (versions_in f.kept))

-- it was to put an item there
abbrev pub IsOutOfRoomToPut : List ℕ → List ℕ → (List ℕ → List ℕ → List ℕ) → OutOfSpace → WorkingVersion → WorkingVersion → Type 0
IsOutOfRoomToPut key item asks f old d = IsOutOfRoom key (3 + cells_in item) (asks item) f old d

-- ---- it ends

-- its working set is the next version
pub record MakesNext (most : ℕ) (after : Known) (d : WorkingVersion) (r : Receipt) : Type 0 where
  pub commits : Commits d.seat.place.me.0 d.log.operations after
  pub version : r.version ≡ d.seat.version + 1
  pub next : d.seat.version ≢ LAST_VERSION
  -- what was moved before, published, and freed behind it
  pub receipt : Recycles most d after r

-- or there is no next one, and the base stays
pub record StaysAtBase (seat : Option (PassSeat (List Entry) (List Operation))) (d : WorkingVersion) (s : Spent) : Type 0 where
  pub back : IsBack d.seat.place.me.0 seat
  pub version : s.version ≡ d.seat.version
  pub last : d.seat.version ≡ LAST_VERSION

-- one of both
abbrev pub CommitsOrStays : ℕ → Option (PassSeat (List Entry) (List Operation)) → Result Receipt Spent → WorkingVersion → Type 0
CommitsOrStays most seat r d = MatchResult r (MakesNext most (known_at seat) d) (StaysAtBase seat d)
