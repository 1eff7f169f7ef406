-- What one command of a worker does, while other workers do theirs.
use Rattle.std.specs.Prelude.{◌≡◌, ◌⊎◌, ℕ, ◌+◌, ◌≤◌, Bool, true, false, List, [], ◌∷◌, ◌++◌, length, Option, Some, None, Ok, Contains}
use Rattle.zone_model.specs.Versions.{Version}
use Rattle.zone_model.specs.Transactions.{whole}
use Rattle.job_model.specs.Commands.{Command, held_after}
use Rattle.job_model.specs.Outcomes.{WorkerProgress, progress_after, is_committed, asked_by, shown_by, EndsLawfully}
use Rattle.job_report.specs.Outcomes.{ended_view, Tells}
use Rattle.job_report.specs.declared.outcomes.Told.TheVariants as told
use Rattle.job_report.specs.declared.outcomes.Outcome.{Outcome}
use Rattle.atomic_table.specs.Seated.{TableId}
use Rattle.shared_cells.specs.declared.view.PassView.{PassView}
use Rattle.shared_cells.specs.History.{StartsWith, IsPartOf, entries_by, entry_of, version_after}
use Rattle.qp_multi.specs.declared.commit.Receipt.{Receipt}
use Rattle.qp_multi.specs.declared.meaning.Operation.{Operation}
use Rattle.qp_multi.specs.Compactions.{Compacts}
use Rattle.qp_multi.specs.Operations.{applied}
use Rattle.qp_multi.specs.Passes.{Known, first_version}
use Rattle.job_commands.specs.Histories.{OpenedWith, Commit, IsAsked, IsLawful, StandsAs, AreVersions, Deeds, Explains, judged_by}

-- What a worker's two passes know, that of its questions and transactions and that of its snapshots; and whether it holds a snapshot.
pub record WorkerPasses : Type 0 where
  pub asks : Known
  pub holds : Known
  pub held : Bool

-- What a worker has come to is of versions that its passes have seen. What it holds is the last that the second pass has seen.
abbrev pub HoldsLast : WorkerPasses → Bool → Option ℕ → Type 0
HoldsLast t false v = v ≡ None
HoldsLast t true v = v ≡ Some (length t.holds.seen.history)

pub record IsProgress (t : WorkerPasses) (progress : WorkerProgress) : Type 0 where
  pub seen : progress.seen ≤ length t.asks.seen.history
  pub held : HoldsLast t t.held progress.held

-- what the second pass has seen of the history the first has seen too
pub record IsUnder (asks holds : Known) : Type 0 where
  pub opening : first_version holds.seen ≡ first_version asks.seen
  pub history : StartsWith asks.seen.history holds.seen.history

-- The pass of this number has committed a block: the history has operations that do what it asks for behind those of the
-- base, which has of the pass's commits those that it made before. The version that stands as the base becomes what the block makes
-- of it.
pub record Adds (s : OpenedWith) (own : PassView (List Operation)) (c : Command) (version : ℕ) (old new : Known) : Type 0 where
  pub base : List Commit
  pub operations : List Operation
  pub before : StartsWith base old.seen.history
  pub mine : own.entries ≡ entries_by own.number base
  pub does : IsAsked s (asked_by c) base operations
  pub history : new.seen.history ≡ base ++ entry_of own.number operations ∷ []
  pub pass : new.pass ≡ Some (record own { entries = own.entries ++ entry_of own.number operations ∷ [] })
  pub numbered : version ≡ length base + 1
  pub makes : (zone : Version) → StandsAs (version_after applied s.opening base) zone
      → (next : Version) × (whole s.origin (asked_by c) zone ≡ Ok next) × StandsAs (version_after applied s.opening new.seen.history) next

-- its pass's commits are the same, and it may have pinned a version that the outcome shows
pub record Stays (c : Command) (version : ℕ) (own : PassView (List Operation)) (new : Known) : Type 0 where
  pub now : PassView (List Operation)
  pub pass : new.pass ≡ Some now
  pub number : now.number ≡ own.number
  pub entries : now.entries ≡ own.entries
  pub pinned : (v : ℕ) → Contains now.pinned v → Contains own.pinned v ⊎ Contains (shown_by c version) v

abbrev pub Writes : OpenedWith → PassView (List Operation) → Command → ℕ → Bool → Known → Known → Type 0
Writes s own c version false old new = Stays c version own new
Writes s own c version true old new = Adds s own c version old new

-- What lay in sparse chunks was moved by a compaction of the index, on a table for so many passes, as its receipt says.
abbrev pub MovedAt : TableId → ℕ → Known → Known → Type 0
MovedAt table passes old new = (receipt : Receipt) × Compacts IsLawful table passes old new receipt

-- so it was on some table that was opened so
abbrev pub Moved : OpenedWith → Known → Known → Type 0
Moved s old new = (table : TableId) × MovedAt table s.passes old new

-- A command came to this outcome, which tells what is so and is lawful, whichever versions the history will have beside those that
-- were seen.
pub record Step (s : OpenedWith) (c : Command) (o : Outcome) (old new : WorkerPasses) : Type 0 where
  pub asks : IsPartOf new.asks.seen old.asks.seen
  pub holds : IsPartOf new.holds.seen old.holds.seen
  pub under : IsUnder new.asks new.holds
  pub held : new.held ≡ held_after old.held c
  pub tells : (set : ℕ → Version) → AreVersions s new.asks.seen.history set → Tells s.origin set c o
  pub ends : (progress : WorkerProgress) → IsProgress old progress → (set : ℕ → Version) (deeds : Deeds) → AreVersions s new.asks.seen.history set → Explains s deeds new.asks.seen
      → EndsLawfully (judged_by s set deeds) progress c o.version (ended_view o.told)
  pub below : o.version ≤ length new.asks.seen.history
  -- what it holds now is of that version, if it took it
  pub holding : (progress : WorkerProgress) → IsProgress old progress → IsProgress new (progress_after progress c o.version)
  pub writes : (own : PassView (List Operation)) → old.asks.pass ≡ Some own → Writes s own c o.version (is_committed (ended_view o.told)) old.asks new.asks
  pub kept : (own : PassView (List Operation)) → old.holds.pass ≡ Some own → Stays c o.version own new.holds
  -- what is told as a compaction was one, and no block without operations
  pub moves : o.told ≡ told.Compacted → Moved s old.asks new.asks
