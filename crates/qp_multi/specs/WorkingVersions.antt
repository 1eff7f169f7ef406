-- What a transaction has: its base, and its working set.
use Rattle.std.specs.Prelude.{◌≡◌, ◌↔◌, ◌⊎◌, ℕ, List, [], ◌∷◌, ◌++◌, Option, Some, IsSome, Contains}
use Rattle.trie_model.specs.Keys.{Entry}
use Rattle.shared_cells.specs.declared.pass.PassSeat.{PassSeat}
use Rattle.chunk_usage.specs.Handing.{Lacks}
use Rattle.chunk_usage.specs.Keeping.{kept_versions}
use Rattle.shared_cells.specs.declared.view.PassView.{PassView}
use Rattle.shared_cells.specs.History.{StartsWith, entry_of}
use Rattle.shared_cells.specs.Views.{pass_of}
use Rattle.shared_cells.specs.Steps.{IsNamed}
use Rattle.qp_multi.specs.declared.meaning.Operation.{Operation}
use Rattle.qp_multi.specs.declared.writer.WorkingVersion.{WorkingVersion}
use Rattle.qp_multi.specs.declared.refusal.OutOfSpace.{OutOfSpace}
use Rattle.qp_multi.specs.Operations.{applied}
use Rattle.qp_multi.specs.Passes.{Known, known_at, version_seen}
use Rattle.qp_multi.specs.Bases.{StandsFor, Joined}
use Rattle.qp_multi.specs.Keepings.{GoesOn, versions_in}

-- the base, and what the transaction's operations have made of it

abbrev pub base_of : WorkingVersion → List Entry
base_of d = version_seen d.seat.place.me.0.seen

abbrev pub working_set : WorkingVersion → List Entry
working_set d = applied (base_of d) d.log.operations

-- the root stands for the working set
abbrev pub Works : WorkingVersion → Type 0
Works d = StandsFor d.seat.place.me.0 d.usage d.root (working_set d)

-- A transaction begins: the pass has joined the turn, and nothing was done to the base.
pub record Begins (lawful : List Entry → List Entry → Type 0) (before : Known) (d : WorkingVersion) : Type 0 where
  pub joined : Joined lawful before d.seat.place.me.0
  pub none_done : d.log.operations ≡ []
  pub works : Works d

-- the pass is in its place again, and has seen what the turn has
abbrev pub IsBack : Known → Option (PassSeat (List Entry) (List Operation)) → Type 0
IsBack v seat = IsSome seat × (known_at seat ≡ pass_of v)

-- A call was to do the operation, which is refused where this holds of the working set. Either it has done it, or the working set
-- is as before.
pub record Operates (o : Operation) (denied : List Entry → Type 0) (old new : WorkingVersion) (is_done is_denied : Type 0) : Type 0 where
  pub known : GoesOn old.seat.place.me.0 new.seat.place.me.0
  pub works : Works new
  pub done : is_done → new.log.operations ≡ old.log.operations ++ o ∷ []
  pub stays : (is_done → ⊥) → new.log.operations ≡ old.log.operations
  pub passes : new.seat.passes ≡ old.seat.passes
  pub refused : is_denied ↔ denied (working_set old)

-- The request is one that the usage refuses. Kept are the current version, which is the last, and others that some
-- pass was found reading.
pub record IsFull (d : WorkingVersion) (f : OutOfSpace) : Type 0 where
  pub lacks : Lacks d.usage f.shortage
  pub kept : versions_in f.kept ≡ kept_versions d.usage
  pub named : (v : ℕ) → Contains (versions_in f.kept) v → (v ≡ d.seat.version) ⊎ IsNamed d.seat.place.me.0 v
  pub ends : (older : List ℕ) × (versions_in f.kept ≡ older ++ d.seat.version ∷ [])

-- The operations were published as one commit of the joined pass, which has seen it: the history has it behind the base's, and of
-- the pass's commits it is the last.
pub record Commits (v : Known) (operations : List Operation) (w : Known) : Type 0 where
  pub own : PassView (List Operation)
  pub joined : v.pass ≡ Some own
  pub opening : w.seen.opening ≡ v.seen.opening
  pub history : w.seen.history ≡ v.seen.history ++ entry_of own.number operations ∷ []
  pub namings : StartsWith w.seen.namings v.seen.namings
  pub pass : w.pass ≡ Some (record own { entries = own.entries ++ entry_of own.number operations ∷ [] })

-- Nothing was done, and as much is known.
pub record IsSame (old new : WorkingVersion) : Type 0 where
  pub known : new.seat.place.me.0 ≡ old.seat.place.me.0
  pub usage : new.usage ≡ old.usage
  pub root : new.root ≡ old.root
  pub log : new.log.operations ≡ old.log.operations
  pub works : Works new

-- a working version was there and is there, and they are so related
abbrev pub Between : (WorkingVersion → WorkingVersion → Type 0) → Option WorkingVersion → Option WorkingVersion → Type 0
Between related (Some old) (Some new) = related old new
Between related _ _ = ⊥
