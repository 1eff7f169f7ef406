-- What is known when all workers are done.
use Rattle.std.specs.Prelude.{◌≡◌, ◌≢◌, ◌⊎◌, ℕ, ◌+◌, Bool, true, false, List, [], ◌∷◌, ◌++◌, length, map, Some, Contains}
use Rattle.std.specs.List.{AllByRecursion}
use Rattle.job_model.specs.Commands.{Command}
use Rattle.job_report.specs.declared.outcomes.Outcomes.{Outcomes}
use Rattle.shared_cells.specs.declared.view.Naming.{Naming}
use Rattle.shared_cells.specs.declared.view.PassView.{PassView}
use Rattle.shared_cells.specs.History.{StartsWith, entries_by}
use Rattle.shared_cells.specs.Views.{number_of}
use Rattle.qp_multi.specs.declared.meaning.Operation.{Operation}
use Rattle.qp_multi.specs.Passes.{Known, first_version}
use Rattle.job_commands.specs.Histories.{OpenedWith, Commit, Entries}
use Rattle.job_commands.specs.Steps.{WorkerPasses}
use Rattle.job_commands.specs.Works.{Numbers, WorkerRan}

-- some element is so
abbrev pub Some' : {A : Type 0} → (A → Type 0) → List A → Type 0
Some' P [] = ⊥
Some' P (x ∷ xs) = P x ⊎ Some' P xs

-- no number comes twice
abbrev pub AreApart : List ℕ → Type 0
AreApart [] = Unit {0}
AreApart (x ∷ xs) = AllByRecursion (λ y. x ≢ y) xs × AreApart xs

-- A worker that is done: the numbers of its passes, what these know, and whether it has two of them; its commands and their outcomes.
-- One that takes no snapshots has one pass, and as the second stands what that pass knew at first.
pub record Worker (s : OpenedWith) : Type 0 where
  pub numbers : Numbers
  pub worker_passes : WorkerPasses
  pub has_second : Bool
  pub commands : List Command
  pub outcomes : Outcomes
  pub ran : WorkerRan s numbers worker_passes commands outcomes.list.items

-- what the passes of workers know, and of all with main's behind them

abbrev pub second_view : Bool → Known → List Known
second_view true second = second ∷ []
second_view false second = []

abbrev pub worker_views : {s : OpenedWith} → Worker s → List Known
worker_views w = w.worker_passes.asks ∷ second_view w.has_second w.worker_passes.holds

abbrev pub workers_views : {s : OpenedWith} → List (Worker s) → List Known
workers_views [] = []
workers_views (w ∷ ws) = worker_views w ++ workers_views ws

abbrev pub views_of : {s : OpenedWith} → Known → List (Worker s) → List Known
views_of main ws = workers_views ws ++ main ∷ []

abbrev pub commands_in : {s : OpenedWith} → List (Worker s) → List (List Command)
commands_in ws = map (λ w. w.commands) ws

abbrev pub outcomes_in : {s : OpenedWith} → List (Worker s) → List Outcomes
outcomes_in ws = map (λ w. w.outcomes) ws

-- the numbers of passes, each one more than the pass's own
abbrev pub numbers_in : List Known → List ℕ
numbers_in views = map (λ (v : Known). number_of v.pass) views

-- a pass is this one, by its number
abbrev pub IsPass : ℕ → Known → Type 0
IsPass number v = (own : PassView (List Operation)) × (v.pass ≡ Some own) × (own.number ≡ number)

-- All passes of an index have been given back. There is one history, which begins with what each has seen, and each commit of it is
-- by one of them and stands in its list. There is one list of namings, which begins with those that each has seen, and each of
-- it is of a version that its pass pinned.
pub record Closed (views : List Known) (history : List Commit) (namings : List Naming) : Type 0 where
  pub begins : AllByRecursion (λ v. StartsWith history v.seen.history) views
  pub names : AllByRecursion (λ v. StartsWith namings v.seen.namings) views
  pub entries : AllByRecursion (λ v. (own : PassView (List Operation)) → v.pass ≡ Some own → own.entries ≡ entries_by own.number history) views
  pub authors : (e : Commit) → Contains history e → Some' (IsPass e.author) views
  pub namers : (n : Naming) → Contains namings n
      → Some' (λ v. (own : PassView (List Operation)) × (v.pass ≡ Some own) × (own.number ≡ n.pass) × Contains own.pinned n.version) views
  pub apart : AreApart (numbers_in views)

-- Main has learnt what all workers had seen, has committed nothing, and has asked for the last version.
pub record MainSees {s : OpenedWith} (main : Known) (ws : List (Worker s)) : Type 0 where
  pub own : PassView (List Operation)
  pub is_own : main.pass ≡ Some own
  pub none : own.entries ≡ []
  pub pinned : (v : ℕ) → Contains own.pinned v → v ≡ length main.seen.history
  pub learnt : AllByRecursion (λ w. StartsWith main.seen.history w.worker_passes.asks.seen.history) ws

-- Passes that have asked and committed nothing were given to workers, and one to main. All are back: there are as many, and their
-- numbers are those that there were. Main, which knows of version 0, has learnt what each worker's first pass has seen.
pub record Handed {W : Type 0} (opening : Entries) (first : W → Known) (before views : List Known) (main : Known) (done : List W) : Type 0 where
  pub as_many : length before ≡ length views + 1
  pub all_back : (m : ℕ) → Contains (numbers_in before) m → Contains (numbers_in (views ++ main ∷ [])) m
  pub own : PassView (List Operation)
  pub is_own : main.pass ≡ Some own
  pub none : own.entries ≡ []
  pub unpinned : own.pinned ≡ []
  pub opened : first_version main.seen ≡ opening
  pub learnt : AllByRecursion (λ w. StartsWith main.seen.history (first w).seen.history) done

-- So these workers had them, and ran these commands.
pub record Gathers (s : OpenedWith) (before : List Known) (ws : List (List Command)) (os : List Outcomes) (views : List Known) (main : Known) : Type 0 where
  pub done : List (Worker s)
  pub commands_are : ws ≡ commands_in done
  pub outcomes_are : os ≡ outcomes_in done
  pub views_are : views ≡ workers_views done
  pub handed : Handed s.opening (λ (w : Worker s). w.worker_passes.asks) before views main done
