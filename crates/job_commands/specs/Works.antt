-- What a worker's run promises, whatever the other workers did.
use Rattle.std.specs.Prelude.{◌≡◌, ◌⊎◌, ℕ, ◌+◌, ◌-◌, ◌<◌, ◌≤◌, true, false, List, [], ◌∷◌, ◌++◌, length, Some, Ok, Contains}
use Rattle.std.specs.List.{AllByRecursion}
use Rattle.zone_model.specs.Versions.{Version}
use Rattle.zone_model.specs.Transactions.{whole}
use Rattle.job_model.specs.Commands.{Command}
use Rattle.job_model.specs.Outcomes.{Pair, is_committed, asked_by, times_made, at_first, Along, shown_in}
use Rattle.job_report.specs.Outcomes.{pairs_of, EachTells}
use Rattle.job_report.specs.declared.outcomes.Outcome.{Outcome}
use Rattle.shared_cells.specs.declared.view.PassView.{PassView}
use Rattle.shared_cells.specs.History.{StartsWith, entries_by}
use Rattle.qp_multi.specs.declared.meaning.Operation.{Operation}
use Rattle.qp_multi.specs.Passes.{Known, first_version}
use Rattle.job_commands.specs.Histories.{OpenedWith, Commit, Entries, IsAsked, index_at, StandsAs, AreVersions, Deeds, Explains, judged_by, times_by}
use Rattle.job_commands.specs.Steps.{WorkerPasses}

-- a version that was made is what its operations make of the version before; its commit does what they ask for
abbrev pub Replayed : OpenedWith → List Commit → Pair → Type 0
Replayed s history pair =
    is_committed pair.1.ended ≡ true → (0 < pair.1.version)
    × ((before : List Commit) (e : Commit) → StartsWith history (before ++ e ∷ []) → length before + 1 ≡ pair.1.version → IsAsked s (asked_by pair.0) before e.change)
    × ((base : Version) → StandsAs (index_at s.opening history (pair.1.version - 1)) base
    → (next : Version) × (whole s.origin (asked_by pair.0) base ≡ Ok next) × StandsAs (index_at s.opening history pair.1.version) next)

-- Commands with their outcomes, by a worker whose passes have seen a history. They tell what is so and are lawful on each history
-- that begins with it. The versions that they made are those of its first pass, which has told all of these.
pub record Work (s : OpenedWith) (t : WorkerPasses) (pairs : List Pair) : Type 0 where
  pub opened : first_version t.asks.seen ≡ s.opening
  pub along : (set : ℕ → Version) (deeds : Deeds) → AreVersions s t.asks.seen.history set → Explains s deeds t.asks.seen → Along (judged_by s set deeds) at_first pairs
  pub none_above : AllByRecursion (λ pair. pair.1.version ≤ length t.asks.seen.history) pairs
  pub replayed : AllByRecursion (Replayed s t.asks.seen.history) pairs
  pub asker : PassView (List Operation)
  pub is_asker : t.asks.pass ≡ Some asker
  pub holder : PassView (List Operation)
  pub is_holder : t.holds.pass ≡ Some holder
  -- the history up to its last commit has just its commits
  pub committed : List Commit
  pub front : StartsWith t.asks.seen.history committed
  pub mine : asker.entries ≡ entries_by asker.number committed
  pub made : (j : ℕ) → times_made j pairs ≡ times_by asker.number j committed
  pub none_held : holder.entries ≡ []
  pub pinned : (v : ℕ) → Contains asker.pinned v ⊎ Contains holder.pinned v → Contains (shown_in pairs) v

-- the numbers of a worker's passes: that of its questions and transactions, and that of its snapshots
pub record Numbers : Type 0 where
  pub asker : ℕ
  pub holder : ℕ

-- a worker has one pass, of this number
abbrev pub only : ℕ → Numbers
only number = record { asker = number; holder = number }

-- passes of these numbers that have asked and committed nothing, and have seen version 0 alone
pub record IsNew (number : ℕ) (opening : Entries) (v : Known) : Type 0 where
  pub own : PassView (List Operation)
  pub is_own : v.pass ≡ Some own
  pub numbered : own.number ≡ number
  pub none : own.entries ≡ []
  pub unpinned : own.pinned ≡ []
  pub opened : first_version v.seen ≡ opening
  pub no_history : v.seen.history ≡ []

abbrev pub AreNew : Entries → List Known → Type 0
AreNew opening views = AllByRecursion (λ v. (number : ℕ) × IsNew number opening v) views

pub record Begins (s : OpenedWith) (numbers : Numbers) (asks spare : Known) : Type 0 where
  pub asker : IsNew numbers.asker s.opening asks
  pub holder : IsNew numbers.holder s.opening spare

-- no snapshot is held
abbrev pub ended : Known → Known → WorkerPasses
ended asks spare = record { asks = asks; holds = spare; held = false }

-- a worker's commands came to these outcomes
pub record WorkerRan (s : OpenedWith) (numbers : Numbers) (t : WorkerPasses) (commands : List Command) (os : List Outcome) : Type 0 where
  pub told : (set : ℕ → Version) → AreVersions s t.asks.seen.history set → EachTells s.origin set commands os
  pub work : Work s t (pairs_of commands os)
  pub asker : work.asker.number ≡ numbers.asker
  pub holder : work.holder.number ≡ numbers.holder
