-- What is few enough for a job: the cells of its versions and of what its transactions work on, and the operations of one.
use Rattle.std.specs.Prelude.{◌≡◌, ℕ, ◌+◌, ◌-◌, ◌≤◌, List, ◌++◌, length, if◌then◌else◌, Ok}
use Rattle.std.specs.List.{AllByRecursion}
use Rattle.zone_model.specs.Names.{Name}
use Rattle.zone_model.specs.Versions.{Version, Operation, all_applied}
use Rattle.zone_model.specs.Transactions.{Transaction}
use Rattle.master_file.specs.Rows.{CanBeDumped}
use Rattle.job_model.specs.Commands.{Command, FedJob, Job}
use Rattle.job_model.specs.Sizes.{cell_count}
use Rattle.job_model.specs.Outcomes.{Rule, Full, Spent, Ended, Shown, Committed, RolledBack, Refused, Outcome, Pair, is_committed, asked_by, asked_at, version_at, passes_for}
use Rattle.job_model.specs.Feeds.{FedPair, passes_fed}
use Rattle.job_model.specs.Needs.{cells_of_commands, longest, most_cells, most_operations}
use Rattle.trie_model.specs.Capacity.{is_roomy}
use Rattle.report_laws.specs.Changes.{AllAsked}

-- each worker's commands ask for operations as scripts say them
abbrev pub AllWorkersAsk : Name → List (List Command) → Type 0
AllWorkersAsk origin workers = AllByRecursion (AllByRecursion (AllAsked origin)) workers

-- A job whose zone is one of its origin, with records as master files have them, and whose operations are as scripts say them.
pub record IsSaidJob (job : Job) : Type 0 where
  pub zone : CanBeDumped job.origin job.zone
  pub workers : AllWorkersAsk job.origin job.workers

-- the same of a job that is one list of commands
pub record IsSaidList (job : FedJob) : Type 0 where
  pub zone : CanBeDumped job.origin job.zone
  pub commands : AllByRecursion (AllAsked job.origin) job.commands

-- ---- cells

-- the version that a command was on: where it made one, the version before that
abbrev pub base_of : Outcome → ℕ
base_of o = if is_committed o.ended then o.version - 1 else o.version

-- What any first operations of a transaction make of a version has at most so many cells. These are the sets that it works on, also where it
-- is refused or rolled back in the end.
abbrev pub WorksWithin : ℕ → Name → Version → Transaction → Type 0
WorksWithin most origin version t = (front back : List Operation) (working : Version) → t.operations ≡ front ++ back
    → all_applied origin front version ≡ Ok working → cell_count working ≤ most

-- Under these outcomes each version of the zone has at most so many cells; so has each set on the way from one version to the next; and so
-- has each set that a command's transaction works on from the version that it was on.
pub record HaveFewCells (most : ℕ) (origin : Name) (zone : Version) (pairs : List Pair) : Type 0 where
  pub versions : (v : ℕ) → cell_count (version_at origin zone pairs v) ≤ most
  pub between : (v : ℕ) → WorksWithin most origin (version_at origin zone pairs v) (asked_at (v + 1) pairs)
  pub working : AllByRecursion (λ pair. WorksWithin most origin (version_at origin zone pairs (base_of pair.1)) (asked_by pair.0)) pairs

-- ---- operations

-- The transaction that made a version has at most so many operations, and so has that of each command.
pub record HaveFewOperations (most : ℕ) (pairs : List Pair) : Type 0 where
  pub made : (v : ℕ) → length (asked_at v pairs).operations ≤ most
  pub asked : AllByRecursion (λ pair. length (asked_by pair.0).operations ≤ most) pairs

-- ---- room

-- so many chunks are enough for a job, by what it is reckoned at
abbrev pub IsSized : Job → ℕ → Type 0
IsSized job chunks = is_roomy (passes_for (length job.workers)) (most_cells job) (most_operations job) chunks

-- and for one list of commands and so many workers
abbrev pub IsSizedList : FedJob → ℕ → ℕ → Type 0
IsSizedList job workers chunks = is_roomy (passes_fed workers) (cell_count job.zone + cells_of_commands job.commands) (longest job.commands) chunks

-- a command isn't refused as full
abbrev pub FindsRoom : Ended → Type 0
FindsRoom Shown = Unit {0}
FindsRoom Committed = Unit {0}
FindsRoom RolledBack = Unit {0}
FindsRoom (Refused (Rule refusal)) = Unit {0}
FindsRoom (Refused (Full operation kept)) = ⊥
FindsRoom (Refused Spent) = Unit {0}

-- one that is names no more kept versions than so many
abbrev pub NamesFew : ℕ → Ended → Type 0
NamesFew most Shown = Unit {0}
NamesFew most Committed = Unit {0}
NamesFew most RolledBack = Unit {0}
NamesFew most (Refused (Rule refusal)) = Unit {0}
NamesFew most (Refused (Full operation kept)) = length kept ≤ most
NamesFew most (Refused Spent) = Unit {0}

-- none of these is
abbrev pub AllFindRoom : List Pair → Type 0
AllFindRoom pairs = AllByRecursion (λ pair. FindsRoom pair.1.ended) pairs

-- each of these that is names few
abbrev pub AllNameFew : ℕ → List Pair → Type 0
AllNameFew most pairs = AllByRecursion (λ pair. NamesFew most pair.1.ended) pairs

abbrev pub AllFedFindRoom : List FedPair → Type 0
AllFedFindRoom fed = AllByRecursion (λ f. FindsRoom f.pair.1.ended) fed
