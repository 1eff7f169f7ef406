-- What operations make of a transaction whose working set is a version of a zone.
use Rattle.std.specs.Prelude.{◌≡◌, ℕ, ◌+◌, ◌-◌, ◌≤◌, Bool, true, List, ◌∷◌, ◌++◌, length, take, Option, Result, Ok, Err}
use Rattle.zone_model.specs.Names.{Name}
use Rattle.zone_model.specs.Versions.{Version, Operation, owned, owner_of, apply, all_applied}
use Rattle.zone_model.specs.Transactions.{Prerequisite, Transaction, is_met_by, all_met, whole}
use Rattle.job_model.specs.Sizes.{cells_asked}
use Rattle.qp_multi.specs.declared.writer.WorkingVersion.{WorkingVersion}
use Rattle.qp_multi.specs.Operations.{applied}
use Rattle.qp_multi.specs.WorkingVersions.{Between, base_of}
use Rattle.chunk_usage.specs.declared.space.Shortage.{Shortage}
use Rattle.chunk_usage.specs.Handing.{Lacks}
use Rattle.chunk_usage.specs.Keeping.{kept_versions}
use Rattle.zone_edit.specs.Ways.{MadeOnTheWay}
use Rattle.zone_edit.specs.Stores.{WorksOn, IsFullOn, EditsOne, Edits, done_by}
use Rattle.zone_edit.specs.declared.refusal.EditRefusal.{EditRefusal}
use Rattle.zone_edit.specs.declared.refusal.EditRefusal.TheVariants as refusals

-- An operation is accepted, and the working set is the version that it makes; or it isn't, and the working set stays. So it does for
-- want of memory, which comes only where the operation is accepted.
abbrev pub Applies : Name → Operation → Result (Unit {0}) EditRefusal → Version → WorkingVersion → Type 0
Applies origin operation (Ok u) version new = (next : Version) × (apply origin operation version ≡ Ok next) × WorksOn new next
Applies origin operation (Err refusals.Memory) version new = (next : Version) × (apply origin operation version ≡ Ok next) × WorksOn new version
Applies origin operation (Err (refusals.Refused refusal)) version new = apply origin operation version ≡ Err refusal
Applies origin operation (Err (refusals.Full number shortage)) version new =
    (next : Version) × (apply origin operation version ≡ Ok next) × (next ≡ version → ⊥) × IsFullOn new version (cells_asked (owner_of operation) version next) (kept_versions new.usage) × Lacks new.usage shortage

-- There is no room for an operation that is accepted and changes what the ones before it made: the index refuses this request.
pub record IsFullAt (new : WorkingVersion) (origin : Name) (operations : List Operation) (version : Version) (operation : ℕ) (shortage : Shortage) (kept : List ℕ) : Type 0 where
  pub front : List Operation
  pub refused : Operation
  pub back : List Operation
  pub all : operations ≡ front ++ refused ∷ back
  pub place : operation ≡ length front + 1
  pub working : Version
  pub before : all_applied origin front version ≡ Ok working
  pub next : Version
  pub accepted : apply origin refused working ≡ Ok next
  pub changes : next ≡ working → ⊥
  pub full : IsFullOn new working (cells_asked (owner_of refused) working next) kept
  pub lacks : Lacks new.usage shortage

-- Memory was wanting for an operation that is accepted, and the working set is what the ones before it made.
pub record IsWanting (new : WorkingVersion) (origin : Name) (operations : List Operation) (version : Version) : Type 0 where
  pub front : List Operation
  pub wanted : Operation
  pub back : List Operation
  pub all : operations ≡ front ++ wanted ∷ back
  pub working : Version
  pub before : all_applied origin front version ≡ Ok working
  pub next : Version
  pub accepted : apply origin wanted working ≡ Ok next
  pub works : WorksOn new working

-- the same for operations in order
abbrev pub AppliesAll : Name → List Operation → Result (Unit {0}) EditRefusal → Version → WorkingVersion → Type 0
AppliesAll origin operations (Ok u) version new = (next : Version) × (all_applied origin operations version ≡ Ok next) × WorksOn new next
AppliesAll origin operations (Err refusals.Memory) version new = IsWanting new origin operations version
AppliesAll origin operations (Err (refusals.Refused refusal)) version new = all_applied origin operations version ≡ Err refusal
AppliesAll origin operations (Err (refusals.Full operation shortage)) version new = IsFullAt new origin operations version operation shortage (kept_versions new.usage)

-- The operations that are done at most: all, and where there is no room for one, those in front of it.
abbrev pub done_of : List Operation → Result (Unit {0}) EditRefusal → List Operation
done_of operations (Ok u) = operations
done_of operations (Err refusals.Memory) = operations
done_of operations (Err (refusals.Refused refusal)) = operations
done_of operations (Err (refusals.Full operation shortage)) = take (operation - 1) operations

-- A working version became another one by operations in order. The index has done no more than these, since an operation that changes nothing
-- isn't written; and whatever it had made when it had done some of them, some first ones of these make too.
pub record EditsInOrder (origin : Name) (done : List Operation) (told : Version → WorkingVersion → Type 0) (old new : WorkingVersion) : Type 0 where
  pub edits : EditsOne (length done) told old new
  pub ways : (version : Version) → WorksOn old version → (n : ℕ) → length old.log.operations ≤ n → MadeOnTheWay origin done version (applied (base_of new) (take n new.log.operations))

-- it did by an operation, and by operations in order
abbrev pub EditedOnce : Name → Operation → Result (Unit {0}) EditRefusal → Option WorkingVersion → Option WorkingVersion → Type 0
EditedOnce origin operation result old new = Edits (done_by result) (Applies origin operation result) old new

abbrev pub EditedInOrder : Name → List Operation → Result (Unit {0}) EditRefusal → Option WorkingVersion → Option WorkingVersion → Type 0
EditedInOrder origin operations result old new = Between (EditsInOrder origin (done_of operations result) (AppliesAll origin operations result)) old new

-- the version stays, and it is told whether it meets a prerequisite, and whether all
abbrev pub Meets : Prerequisite → Bool → Version → WorkingVersion → Type 0
Meets p met version new = WorksOn new version × (met ≡ is_met_by (owned p.owner version) p)

abbrev pub MeetsAll : List Prerequisite → Bool → Version → WorkingVersion → Type 0
MeetsAll needs met version new = WorksOn new version × (met ≡ all_met version needs)

-- the same for a transaction
abbrev pub Executes : Name → Transaction → Result (Unit {0}) EditRefusal → Version → WorkingVersion → Type 0
Executes origin asked (Ok u) version new = (next : Version) × (whole origin asked version ≡ Ok next) × WorksOn new next
Executes origin asked (Err refusals.Memory) version new = (all_met version asked.needs ≡ true) × IsWanting new origin asked.operations version
Executes origin asked (Err (refusals.Refused refusal)) version new = whole origin asked version ≡ Err refusal
Executes origin asked (Err (refusals.Full operation shortage)) version new =
    (all_met version asked.needs ≡ true) × IsFullAt new origin asked.operations version operation shortage (kept_versions new.usage)

-- so did it by a transaction
abbrev pub Edited : Name → Transaction → Result (Unit {0}) EditRefusal → Option WorkingVersion → Option WorkingVersion → Type 0
Edited origin asked result old new = Between (EditsInOrder origin (done_of asked.operations result) (Executes origin asked result)) old new
