-- What each kind of command does.
use Rattle.std.specs.Prelude.{◌≡◌, ◌≤◌, ℕ, true, List, ◌∷◌, [], ◌++◌, length, map, Some, Ok, Result, IsOk, IsOkAnd, IsErr, IfOk}
use Rattle.std.specs.declared.alloc.AllocError.{AllocError}
use Rattle.zone_model.specs.Names.{Name}
use Rattle.zone_model.specs.Versions.{Version, all_applied}
use Rattle.zone_model.specs.Versions as zones
use Rattle.zone_model.specs.Transactions.{Transaction, all_met, no_changes, whole}
use Rattle.trie_model.specs.Keys as trie
use Rattle.job_model.specs.declared.Ending.{Ending}
use Rattle.job_model.specs.declared.Ending.TheVariants.{Commit, Rollback}
use Rattle.job_model.specs.declared.Question.{Question}
use Rattle.job_model.specs.Replies.{reply_of}
use Rattle.job_model.specs.Outcomes.{Rule, Full, Causes, Ended, Shown, Committed, RolledBack, Refused}
use Rattle.job_report.specs.Outcomes.{ended_view, Replies}
use Rattle.job_report.specs.declared.outcomes.Outcome.{Outcome}
use Rattle.shared_cells.specs.declared.view.TableSize.{TableSize}
use Rattle.shared_cells.specs.declared.view.PassView.{PassView}
use Rattle.shared_cells.specs.declared.pass.PassSeat.{PassSeat}
use Rattle.shared_cells.specs.History.{StartsWith, IsPartOf, entries_by, entry_of, version_after}
use Rattle.shared_cells.specs.Views.{with_pinned}
use Rattle.qp_multi.specs.declared.index.Index.{Index}
use Rattle.qp_multi.specs.declared.meaning.Named.{Ghosts}
use Rattle.qp_multi.specs.declared.meaning.Operation.{Operation}
use Rattle.qp_multi.specs.declared.kept.Versions.{Versions}
use Rattle.qp_multi.specs.declared.pass.Pass.{Pass}
use Rattle.qp_multi.specs.Keepings.{versions_in}
use Rattle.qp_multi.specs.Operations.{applied}
use Rattle.qp_multi.specs.Passes.{Known, first_version, known_at, version_seen}
use Rattle.zone_edit.specs.declared.refusal.EditRefusal.{EditRefusal}
use Rattle.zone_edit.specs.declared.refusal.EditRefusal.TheVariants as refusals
use Rattle.job_commands.specs.Histories.{OpenedWith, Commit as Commit', BeginsAt, IsAsked, StandsAs, AreVersions, Deeds, Explains, judged_by}

-- the seat of a pass
abbrev pub Seat : Type 0
Seat = PassSeat (List trie.Entry) (List Operation)

-- what passes know
abbrev pub known_in : {Y : Type 0} {N : Ghosts Y} → List (Pass Y N) → List Known
known_in passes = map (λ p. known_at p.seat) passes

-- the size of an index's table
abbrev pub table_size : {X Y : Type 0} {N : Ghosts Y} → Index X Y N → TableSize
table_size index = index.shared.table.shared.key

-- an index of this size
pub record IsIndex (s : OpenedWith) (origin : Name) (size : TableSize) : Type 0 where
  pub origin_is : s.origin ≡ origin
  pub chunks : s.chunks ≡ size.chunks
  pub passes : s.passes ≡ size.passes

-- and a pass that knows of its opening
pub record IsOpenedWith (s : OpenedWith) (origin : Name) (size : TableSize) (v : Known) : Type 0 where
  pub index : IsIndex s origin size
  pub opening : first_version v.seen ≡ s.opening

-- it knows of an opening whose first name is this one
abbrev pub OpensAt : Name → Known → Type 0
OpensAt origin v = BeginsAt origin (first_version v.seen)

-- A pass took the current version, which is no older than what it had seen. The reply is that of the version that it has then seen
-- last.
pub record Asked (origin : Name) (question : Question) (old new : Known) (o : Outcome) : Type 0 where
  pub grows : IsPartOf new.seen old.seen
  pub version : o.version ≡ length new.seen.history
  pub pass : new.pass ≡ with_pinned old.pass o.version
  pub shown : ended_view o.told ≡ Shown
  pub replies : (zone : Version) → StandsAs (version_seen new.seen) zone → Replies (reply_of origin zone question) o.told

-- ---- transactions

-- the version that stands as the base becomes what the block makes of it, by the next commit, which does what the block asks for
pub record Commits (s : OpenedWith) (asked : Transaction) (own : PassView (List Operation)) (old new : Known) : Type 0 where
  pub base : List Commit'
  pub changes : List Operation
  pub before : StartsWith base old.seen.history
  pub mine : own.entries ≡ entries_by own.number base
  pub does : IsAsked s asked base changes
  pub history : new.seen.history ≡ base ++ entry_of own.number changes ∷ []
  pub pass : new.pass ≡ Some (record own { entries = own.entries ++ entry_of own.number changes ∷ [] })
  pub makes : (zone : Version) → StandsAs (version_after applied s.opening base) zone
      → (next : Version) × (whole s.origin asked zone ≡ Ok next) × StandsAs (version_after applied s.opening new.seen.history) next

-- A block that is committed makes the next version. One that is rolled back or refused was on the version that the pass has then
-- seen last, and makes none.
abbrev pub Transacts : OpenedWith → Transaction → Ending → Known → Known → Ended → Type 0
Transacts s asked ending old new Shown = ⊥
Transacts s asked ending old new Committed = (ending ≡ Commit) × ((own : PassView (List Operation)) → old.pass ≡ Some own → Commits s asked own old new)
Transacts s asked ending old new RolledBack =
    (ending ≡ Rollback) × (new.pass ≡ old.pass) × ((zone : Version) → StandsAs (version_seen new.seen) zone → IsOk (whole s.origin asked zone))
Transacts s asked ending old new (Refused cause) =
    (new.pass ≡ old.pass)
    × ((set : ℕ → Version) (deeds : Deeds) → AreVersions s new.seen.history set → Explains s deeds new.seen → Causes (judged_by s set deeds) asked ending (length new.seen.history) cause)

pub record BlockRan (s : OpenedWith) (asked : Transaction) (ending : Ending) (old new : Known) (o : Outcome) : Type 0 where
  pub grows : IsPartOf new.seen old.seen
  pub version : o.version ≡ length new.seen.history
  pub transacts : Transacts s asked ending old new (ended_view o.told)

-- a compaction ran as a block without operations does
abbrev pub CompactionRan : Known → Known → Outcome → Type 0
CompactionRan old new o = (s : OpenedWith) → first_version old.seen ≡ s.opening → BlockRan s no_changes Commit old new o

-- A transaction's prerequisites are met, and its operations are accepted up to one of them.
pub record Accepts (origin : Name) (asked : Transaction) (zone : Version) : Type 0 where
  pub met : all_met zone asked.needs ≡ true
  pub front : List zones.Operation
  pub one : zones.Operation
  pub back : List zones.Operation
  pub all : asked.operations ≡ front ++ one ∷ back
  pub next : Version
  pub made : all_applied origin (front ++ one ∷ []) zone ≡ Ok next

-- Memory was wanting for a block that no rule had refused up to there. Its pass has made no version.
pub record BlockWants (s : OpenedWith) (asked : Transaction) (old new : Known) : Type 0 where
  pub grows : IsPartOf new.seen old.seen
  pub pass : new.pass ≡ old.pass
  pub accepts : (zone : Version) → StandsAs (version_seen new.seen) zone → Accepts s.origin asked zone

-- The block is refused for the cause of the refusal, while these versions are kept. Only the list of these may want memory.
abbrev pub StoppedBy : EditRefusal → Versions → ℕ → Result Outcome AllocError → Type 0
StoppedBy refusals.Memory kept version result = IsErr result
StoppedBy (refusals.Refused refusal) kept version result = IsOkAnd result (λ o. (ended_view o.told ≡ Refused (Rule refusal)) × (o.version ≡ version))
StoppedBy (refusals.Full operation request) kept version result = IfOk result (λ o. (ended_view o.told ≡ Refused (Full operation (versions_in kept))) × (o.version ≡ version))
