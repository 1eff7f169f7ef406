-- What becomes of a change of the table.
use Rattle.std.specs.Prelude.{◌≡◌, ◌≢◌, ℕ, ◌-◌, ◌^◌, List, [], ◌∷◌, ◌++◌, length, Some, Result, Ok, Err}
use Rattle.zone_model.specs.Names.{Name}
use Rattle.zone_model.specs.Keys.{key_of}
use Rattle.trie_model.specs.Keys.{Entry}
use Rattle.shared_cells.specs.declared.view.PassView.{PassView}
use Rattle.shared_cells.specs.History.{StartsWith, IsPartOf, entries_by, entry_of}
use Rattle.qp_multi.specs.declared.commit.Receipt.{Receipt}
use Rattle.qp_multi.specs.declared.writer.WorkingVersion.{WorkingVersion}
use Rattle.qp_multi.specs.declared.meaning.Operation.{Operation}
use Rattle.qp_multi.specs.declared.meaning.Operation.TheVariants.{Insert, Delete}
use Rattle.qp_multi.specs.WorkingVersions.{Begins}
use Rattle.qp_multi.specs.Keepings.{GoesOn}
use Rattle.qp_multi.specs.Operations.{operated}
use Rattle.qp_multi.specs.Passes.{Known, version_seen}
use Rattle.qp_multi.specs.Receipts.{Recycles}
use Rattle.zone_table.specs.declared.change.TableRefusal.{TableRefusal}
use Rattle.zone_table.specs.declared.change.TableRefusal.TheVariants.{Exists, Missing, Spent}
use Rattle.zone_table.specs.Notes.{SeenHistory}
use Rattle.zone_table.specs.Tables.{IsAmong, IsAttached, entry_for}

-- no version has a greater number
abbrev pub last_number : ℕ
last_number = 2 ^ 40 - 1

-- The operation was published as the next commit, by this pass, behind a base of which it had seen a beginning. The base's version meets a
-- condition.
pub record IsChanged (meets : List Entry → Type 0) (old new : Known) (o : Operation) (number : ℕ) : Type 0 where
  pub base : SeenHistory
  pub grows : IsPartOf base old.seen
  pub met : meets (version_seen base)
  pub next : length base.history ≢ last_number
  pub own : PassView (List Operation)
  pub by : old.pass ≡ Some own
  -- the base has just the commits that the pass had made
  pub mine : own.entries ≡ entries_by own.number base.history
  pub opening : new.seen.opening ≡ base.opening
  pub history : new.seen.history ≡ base.history ++ entry_of own.number (o ∷ []) ∷ []
  pub namings : StartsWith new.seen.namings base.namings
  pub pass : new.pass ≡ Some (record own { entries = own.entries ++ entry_of own.number (o ∷ []) ∷ [] })
  -- so the next version has this number, and is what the operation makes of the base
  pub number_is : number ≡ length new.seen.history
  pub version_is : version_seen new.seen ≡ operated (version_seen base) o

-- Nothing was published. The pass has then seen the base, which has this number and whose version meets a condition.
pub record IsUnchanged (meets : List Entry → Type 0) (old new : Known) (number : ℕ) : Type 0 where
  pub grows : IsPartOf new.seen old.seen
  pub pass : new.pass ≡ old.pass
  pub number_is : number ≡ length new.seen.history
  pub met : meets (version_seen new.seen)

-- An origin is put in. It is refused exactly where the base has it; or, else, where there is no next number.
abbrev pub Attaches : Name → Known → Known → Result Receipt TableRefusal → Type 0
Attaches origin old new (Ok receipt) = IsChanged (λ es. ¬ IsAttached es origin) old new (Insert (entry_for origin)) receipt.version
Attaches origin old new (Err (Exists number)) = IsUnchanged (λ es. IsAttached es origin) old new number
Attaches origin old new (Err (Missing number)) = ⊥
Attaches origin old new (Err (Spent number)) = IsUnchanged (λ es. ¬ IsAttached es origin) old new number × (number ≡ last_number)

-- It is taken out. That is refused exactly where the base hasn't it; or, else, where there is no next number.
abbrev pub Detaches : Name → Known → Known → Result Receipt TableRefusal → Type 0
Detaches origin old new (Ok receipt) = IsChanged (λ es. IsAttached es origin) old new (Delete (key_of origin)) receipt.version
Detaches origin old new (Err (Exists number)) = ⊥
Detaches origin old new (Err (Missing number)) = IsUnchanged (λ es. ¬ IsAttached es origin) old new number
Detaches origin old new (Err (Spent number)) = IsUnchanged (λ es. IsAttached es origin) old new number × (number ≡ last_number)

-- What was freed and kept is what the table's index tells of the commit of a light transaction, which leaves 8 chunks sparse.
pub record IsReceipt (old new : Known) (receipt : Receipt) : Type 0 where
  pub first : WorkingVersion
  pub begins : Begins IsAmong old first
  pub last : WorkingVersion
  pub goes_on : GoesOn first.seat.place.me.0 last.seat.place.me.0
  pub recycles : Recycles 8 last new receipt
