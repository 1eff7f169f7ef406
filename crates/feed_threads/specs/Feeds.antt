-- Workers that take the commands of one list as they come free.
use Rattle.std.specs.Prelude.{◌≡◌, ℕ, ◌+◌, ◌-◌, ◌<◌, ◌≤◌, ◌==◌, true, List, [], ◌∷◌, length, map, slice_get, slice_index_or, if◌then◌else◌, Option, Some, None, All}
use Rattle.std.specs.List.{AllByRecursion, zip}
use Rattle.std.specs.List.Sorted.{IsStrictlyIncreasing}
use Rattle.zone_model.specs.Names.{Name}
use Rattle.zone_model.specs.Versions.{Version}
use Rattle.job_model.specs.Commands.{Command, Compact}
use Rattle.job_model.specs.Outcomes.{Lawful, all_pairs, version_at}
use Rattle.job_model.specs.Feeds.{Fed, all_numbers, by_worker, passes_fed}
use Rattle.job_report.specs.Feeds.{FedTell, fed_pairs}
use Rattle.job_report.specs.declared.outcomes.FedOutcome.{FedOutcome}
use Rattle.job_report.specs.declared.outcomes.Outcome.{Outcome}
use Rattle.job_report.specs.declared.outcomes.Outcomes.{Outcomes}
use Rattle.feed_core.specs.Feeds.{Handout, Takings, StandsOnce}
use Rattle.job_commands.specs.Calls.{Call, IsHeard, next_number}
use Rattle.feed_threads.specs.declared.ordering.Served.{Served}

-- ---- one worker

-- the command of a number, from 1, and the commands of some numbers
abbrev pub command_at : List Command → ℕ → Command
command_at commands number = slice_index_or commands (number - 1) Compact

abbrev pub commands_at : List Command → List ℕ → List Command
commands_at commands numbers = map (command_at commands) numbers

-- a seat that is done, and took these numbers
abbrev pub done_seat : Handout → List ℕ → Takings
done_seat feed numbers = record { feed = feed; taken = numbers; done = true }

-- ---- all workers

-- there is an outcome for each number
abbrev pub IsServed : Served → Type 0
IsServed v = length v.numbers.items ≡ length v.outcomes.list.items

abbrev pub numbers_served : List Served → List (List ℕ)
numbers_served served = map (λ v. v.numbers.items) served

abbrev pub commands_served : List Command → List Served → List (List Command)
commands_served commands served = map (λ v. commands_at commands v.numbers.items) served

abbrev pub outcomes_served : List Served → List Outcomes
outcomes_served served = map (λ v. v.outcomes) served

abbrev pub seats_served : Handout → List Served → List Takings
seats_served feed served = map (λ v. done_seat feed v.numbers.items) served

-- the gate was told of all that workers took, the first of whom has a number
abbrev pub FedHeard : (Call → Type 0) → ℕ → List Served → Type 0
FedHeard hears worker [] = Unit {0}
FedHeard hears worker (v ∷ others) = AllByRecursion (IsHeard hears worker) v.numbers.items × FedHeard hears (next_number worker) others

-- the gate was told of commands, from one of a number on, each by one of so many workers, the one that ran it
abbrev pub EachHeard : (Call → Type 0) → ℕ → ℕ → List FedOutcome → Type 0
EachHeard hears workers number [] = Unit {0}
EachHeard hears workers number (o ∷ os) = (0 < o.worker) × (o.worker ≤ workers) × IsHeard hears o.worker number × EachHeard hears workers (number + 1) os

-- of all commands of a list of so many
pub record AllFedHeard (hears : Call → Type 0) (workers count : ℕ) (os : List FedOutcome) : Type 0 where
  pub many : length os ≡ count
  pub each : EachHeard hears workers 1 os

-- The numbers from 1 on, below an end, were taken: each stands in just one of the lists, once, no others do, and each list rises.
pub record AreTaken (end : ℕ) (lists : List (List ℕ)) : Type 0 where
  pub once : (number : ℕ) → 0 < number → number < end → StandsOnce lists number
  pub below : All (All (λ number. (0 < number) × (number < end))) lists
  pub rising : All IsStrictlyIncreasing lists

-- ---- outcomes in the order of their commands

-- what worker w served, of outcomes in their places, the first of which is command n's: the numbers, and an outcome for each
abbrev pub served_by : ℕ → ℕ → List (Option FedOutcome) → List (ℕ × Outcome)
served_by w n [] = []
served_by w n (None ∷ places) = served_by w (n + 1) places
served_by w n (Some o ∷ places) = if o.worker == w then (n, o.outcome) ∷ served_by w (n + 1) places else served_by w (n + 1) places

abbrev pub numbered : Served → List (ℕ × Outcome)
numbered v = zip v.numbers.items v.outcomes.list.items

-- these are in their places, of workers from w on
abbrev pub ArePlaced : ℕ → List Served → List (Option FedOutcome) → Type 0
ArePlaced w [] places = Unit {0}
ArePlaced w (v ∷ served) places = (served_by w 1 places ≡ numbered v) × ArePlaced (w + 1) served places

-- the place of a number is there, and free
abbrev pub IsFree : List (Option FedOutcome) → ℕ → Type 0
IsFree places number = (0 < number) × (slice_get places (number - 1) ≡ Some None)

-- a place is free, or has an outcome of a worker above one and up to another
abbrev pub IsBy : ℕ → ℕ → Option FedOutcome → Type 0
IsBy low high None = Unit {0}
IsBy low high (Some o) = (low < o.worker) × (o.worker ≤ high)

-- all that was served is in order, and nothing else
pub record AreInOrder (count : ℕ) (served : List Served) (os : List FedOutcome) : Type 0 where
  pub many : length os ≡ count
  pub placed : ArePlaced 1 served (map Some os)
  pub by_workers : AllByRecursion (IsBy 0 (length served)) (map Some os)

-- ---- what it comes to

-- The outcomes of one list of commands, by so many workers on an index of so many chunks: each command was run by one worker, they are
-- lawful along each worker's list, and all that their report takes.
pub record IsFedRun (chunks workers : ℕ) (origin : Name) (zone : Version) (commands : List Command) (os : List FedOutcome) (version names : ℕ) : Type 0 where
  pub handed_out : Fed (length commands) (all_numbers workers (fed_pairs commands os))
  pub lawful : Lawful chunks (passes_fed workers) origin zone (by_worker workers (fed_pairs commands os)) version
  pub tell : FedTell origin (version_at origin zone (all_pairs (by_worker workers (fed_pairs commands os)))) commands os
  pub names_are : names ≡ length (version_at origin zone (all_pairs (by_worker workers (fed_pairs commands os))) version)
