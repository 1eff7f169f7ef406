-- How the commands of a job may end.
use Rattle.std.specs.Prelude.{◌≡◌, ℕ, zero, suc, ◌+◌, ◌-◌, ◌*◌, ◌/◌, ◌^◌, ◌<◌, ◌≤◌, Bool, true, false, ◌&&◌, List, [], ◌∷◌, ◌++◌, length, Contains, ◌==◌, if◌then◌else◌, Option, Some, None, Result, Ok, Err, IsOk}
use Rattle.std.specs.List.{AllByRecursion, list_any}
use Rattle.std.specs.List.Sorted.{IsStrictlySortedBy}
use Rattle.std.specs.Ordering.{nat_cmp}
use Rattle.zone_model.specs.Names.{Name}
use Rattle.zone_model.specs.Versions.{Version, Operation, owner_of, apply, all_applied}
use Rattle.zone_model.specs.Transactions.{Transaction, no_changes, all_met, whole}
use Rattle.trie_model.specs.Capacity.{is_roomy}
use Rattle.job_model.specs.Commands.{Command, Ask, Hold, AskHeld, Release, Block, Compact}
use Rattle.job_model.specs.Sizes.{cell_count, cells_asked}
use Rattle.zone_model.specs.declared.Refusal.{Refusal}
use Rattle.job_model.specs.declared.Ending.{Ending}
use Rattle.job_model.specs.declared.Ending.TheVariants.{Commit, Rollback}

-- Why a block makes no version: a prerequisite or a rule of zones; no room for an operation while some versions are kept; or no number is left for
-- the next version.
pub data Cause : Type 0 where
  Rule : (refusal : Refusal) → Cause
  Full : (operation : ℕ) (kept : List ℕ) → Cause
  Spent : Cause

-- How a command ended. One that is no transaction shows a version.
pub data Ended : Type 0 where
  Shown : Ended
  Committed : Ended
  RolledBack : Ended
  Refused : (cause : Cause) → Ended

-- the version that a command shows, a commit made, or a block that changed nothing was on
pub record Outcome : Type 0 where
  pub version : ℕ
  pub ended : Ended

abbrev pub Pair : Type 0
Pair = Command × Outcome

abbrev pub is_refused : Ended → Bool
is_refused Shown = false
is_refused Committed = false
is_refused RolledBack = false
is_refused (Refused cause) = true

abbrev pub is_committed : Ended → Bool
is_committed Shown = false
is_committed Committed = true
is_committed RolledBack = false
is_committed (Refused cause) = false

-- ---- the versions

-- the command made version j
abbrev pub made : ℕ → Pair → Bool
made j pair = is_committed pair.1.ended && (pair.1.version == j)

-- what a command asks to be changed
abbrev pub asked_by : Command → Transaction
asked_by (Ask question) = no_changes
asked_by Hold = no_changes
asked_by (AskHeld question) = no_changes
asked_by Release = no_changes
asked_by (Block _ asked ending) = asked
asked_by Compact = no_changes

-- the transaction that made version j
abbrev pub asked_at : ℕ → List Pair → Transaction
asked_at j [] = no_changes
asked_at j (pair ∷ rest) = if made j pair then asked_by pair.0 else asked_at j rest

-- the version that is accepted, or else this one
abbrev pub accepted_or : Version → Result Version Refusal → Version
accepted_or version (Ok next) = next
accepted_or version (Err cause) = version

-- the version after a transaction that is accepted
abbrev pub after : Name → Transaction → Version → Version
after origin asked version = accepted_or version (whole origin asked version)

-- how many commands made version j
abbrev pub times_made : ℕ → List Pair → ℕ
times_made j [] = 0
times_made j (pair ∷ rest) = (if made j pair then 1 else 0) + times_made j rest

-- version j of the zone of an origin, under these outcomes: the zone after the transactions that made versions 1 to j
abbrev pub version_at : Name → Version → List Pair → ℕ → Version
version_at origin zone pairs zero = zone
version_at origin zone pairs (suc j) = after origin (asked_at (suc j) pairs) (version_at origin zone pairs j)

-- the versions that questions and holds show
abbrev pub shown_by : Command → ℕ → List ℕ
shown_by (Ask question) v = v ∷ []
shown_by Hold v = v ∷ []
shown_by (AskHeld question) v = v ∷ []
shown_by Release v = []
shown_by (Block _ asked ending) v = []
shown_by Compact v = []

abbrev pub shown_in : List Pair → List ℕ
shown_in [] = []
shown_in (pair ∷ rest) = shown_by pair.0 pair.1.version ++ shown_in rest

-- ---- which outcomes may be

-- What outcomes are judged by: the chunks of the index and its passes, the origin, the versions by their numbers, the transaction
-- that made each of them, and the versions that questions and holds show.
pub record JudgedBy : Type 0 where
  pub chunks : ℕ
  pub passes : ℕ
  pub origin : Name
  pub set : ℕ → Version
  pub made_by : ℕ → Transaction
  pub shown : List ℕ

-- how many cells the tries of some versions have together
abbrev pub cells_kept : (ℕ → Version) → List ℕ → ℕ
cells_kept set [] = 0
cells_kept set (v ∷ vs) = cell_count (set v) + cells_kept set vs

-- No version up to a base has more cells than so many, and no transaction that made one of them more operations.
pub record BoundsVersions (s : JudgedBy) (base most_cells most_operations : ℕ) : Type 0 where
  pub cells : (v : ℕ) → v ≤ base → cell_count (s.set v) ≤ most_cells
  pub operations : (v : ℕ) → 0 < v → v ≤ base → length (s.made_by v).operations ≤ most_operations

-- No numbers that bound the versions up to a base, and the operations up to one of a transaction, are such that the index has room
-- for them.
abbrev pub IsCramped : JudgedBy → ℕ → ℕ → Type 0
IsCramped s base operation =
    (most_cells most_operations : ℕ) → BoundsVersions s base most_cells most_operations → operation ≤ most_operations → is_roomy s.passes most_cells most_operations s.chunks → ⊥

-- No set that the index was to hold up to there has more cells than so many: neither version 0, nor what any first operations of the
-- transaction that made a version make of the one before, nor what any first ones of a transaction on the base make of that.
pub record BoundsSets (s : JudgedBy) (base : ℕ) (front : List Operation) (most : ℕ) : Type 0 where
  pub first : cell_count (s.set 0) ≤ most
  pub ways : (v : ℕ) → v < base → (begun rest : List Operation) → (s.made_by (v + 1)).operations ≡ begun ++ rest
      → (working : Version) → all_applied s.origin begun (s.set v) ≡ Ok working → cell_count working ≤ most
  pub sets : (begun rest : List Operation) → front ≡ begun ++ rest
      → (working : Version) → all_applied s.origin begun (s.set base) ≡ Ok working → cell_count working ≤ most

-- Where so many cells, at most 768, bound these sets, the kept versions and the working set may have taken all chunks but the reserve of a
-- quarter: each of them one for each 257 of its cells, and nine that have fewer; and what the operation asks for, one for each 769.
pub record IsCrowded (s : JudgedBy) (base : ℕ) (front : List Operation) (asked kept : ℕ) : Type 0 where
  pub bound : (most : ℕ) → most ≤ 768 → 4 ≤ s.chunks → BoundsSets s base front most
      → s.chunks - s.chunks / 4 ≤ (kept + 1) * (most / 257 + 9) + 1 + asked / 769

-- There was no room for an operation that is accepted and changes what the ones before it made of the base, which meets the
-- prerequisites: the tries of that and of the kept versions have almost as many cells as there are chunks but for the reserve of a quarter. The base is the last kept
-- version, and each other one is kept since a question or a hold shows it. Nor does it come where the index has the chunks that are
-- enough for these versions and operations; nor on a table that has more chunks than small sets may have taken.
pub record WhyFull (s : JudgedBy) (asked : Transaction) (base operation : ℕ) (kept : List ℕ) : Type 0 where
  pub met : all_met (s.set base) asked.needs ≡ true
  pub front : List Operation
  pub refused : Operation
  pub back : List Operation
  pub all : asked.operations ≡ front ++ refused ∷ back
  pub number : operation ≡ length front + 1
  pub working : Version
  pub before : all_applied s.origin front (s.set base) ≡ Ok working
  pub next : Version
  pub accepted : apply s.origin refused working ≡ Ok next
  pub changes : next ≡ working → ⊥
  pub older : List ℕ
  pub base_last : kept ≡ older ++ base ∷ []
  pub older_shown : AllByRecursion (Contains s.shown) older
  pub rising : IsStrictlySortedBy nat_cmp kept
  pub few : length kept ≤ s.passes + 1
  pub full : s.chunks - s.chunks / 4 - 8 ≤ cell_count working + cells_kept s.set kept
  pub cramped : IsCramped s base operation
  pub crowded : IsCrowded s base front (cells_asked (owner_of refused) working next) (length kept)

-- the greatest number of a version
abbrev pub last_version : ℕ
last_version = 2 ^ 40 - 1

-- why a block was refused on a base
abbrev pub Causes : JudgedBy → Transaction → Ending → ℕ → Cause → Type 0
Causes s asked ending base (Rule refusal) = whole s.origin asked (s.set base) ≡ Err refusal
Causes s asked ending base (Full operation kept) = WhyFull s asked base operation kept
Causes s asked ending base Spent = (base ≡ last_version) × (ending ≡ Commit) × IsOk (whole s.origin asked (s.set base))

-- a block that ended so, by a worker that had seen a version
abbrev pub BlockEnds : JudgedBy → ℕ → Transaction → Ending → ℕ → Ended → Type 0
BlockEnds s seen asked ending v Shown = ⊥
BlockEnds s seen asked ending v Committed = (ending ≡ Commit) × (seen < v) × IsOk (whole s.origin asked (s.set (v - 1)))
BlockEnds s seen asked ending v RolledBack = (ending ≡ Rollback) × (seen ≤ v) × IsOk (whole s.origin asked (s.set v))
BlockEnds s seen asked ending v (Refused cause) = (seen ≤ v) × Causes s asked ending v cause

-- What a worker has come to: the version that it saw or made last, and that of the snapshot that it holds.
pub record WorkerProgress : Type 0 where
  pub seen : ℕ
  pub held : Option ℕ

abbrev pub at_first : WorkerProgress
at_first = record { seen = 0; held = None }

-- behind a command that shows, made or was on a version
abbrev pub progress_after : WorkerProgress → Command → ℕ → WorkerProgress
progress_after progress (Ask question) v = record progress { seen = v }
progress_after progress Hold v = record { seen = v; held = Some v }
progress_after progress (AskHeld question) v = progress
progress_after progress Release v = record progress { held = None }
progress_after progress (Block _ asked ending) v = record progress { seen = v }
progress_after progress Compact v = record progress { seen = v }

-- it shows a version, which may be that one
abbrev pub Shows : Type 0 → Ended → Type 0
Shows May Shown = May
Shows May Committed = ⊥
Shows May RolledBack = ⊥
Shows May (Refused cause) = ⊥

-- A command ended so. What it shows of the current version is nothing older than what the worker saw or made; of a snapshot it is the
-- version that was held.
abbrev pub EndsLawfully : JudgedBy → WorkerProgress → Command → ℕ → Ended → Type 0
EndsLawfully s progress (Ask question) v ended = Shows (progress.seen ≤ v) ended
EndsLawfully s progress Hold v ended = Shows (progress.seen ≤ v) ended
EndsLawfully s progress (AskHeld question) v ended = Shows (progress.held ≡ Some v) ended
EndsLawfully s progress Release v ended = Shows (progress.held ≡ Some v) ended
EndsLawfully s progress (Block _ asked ending) v ended = BlockEnds s progress.seen asked ending v ended
EndsLawfully s progress Compact v ended = BlockEnds s progress.seen no_changes Commit v ended

-- the commands of one worker, from what it has come to
abbrev pub Along : JudgedBy → WorkerProgress → List Pair → Type 0
Along s progress [] = Unit {0}
Along s progress (pair ∷ rest) =
    EndsLawfully s progress pair.0 pair.1.version pair.1.ended × Along s (progress_after progress pair.0 pair.1.version) rest

-- the commands of all workers with their outcomes
abbrev pub all_pairs : List (List Pair) → List Pair
all_pairs [] = []
all_pairs (w ∷ ws) = w ++ all_pairs ws

abbrev pub AllAlong : JudgedBy → List (List Pair) → Type 0
AllAlong s [] = Unit {0}
AllAlong s (w ∷ ws) = Along s at_first w × AllAlong s ws

-- a pass of the index for the queries and transactions of each worker, one for what it holds, and one for the last line
abbrev pub passes_for : ℕ → ℕ
passes_for workers = 2 * workers + 1

-- the outcomes of a job are judged by the versions that they themselves make
abbrev pub judged_by : ℕ → ℕ → Name → Version → List (List Pair) → JudgedBy
judged_by chunks passes origin zone workers = record {
  chunks = chunks;
  passes = passes;
  origin = origin;
  set = version_at origin zone (all_pairs workers);
  made_by = λ j. asked_at j (all_pairs workers);
  shown = shown_in (all_pairs workers);
}

-- Each version from 1 to the last was made once, none is above the last, and each worker's commands ended as they may, on an index of
-- so many chunks and passes.
pub record Lawful (chunks passes : ℕ) (origin : Name) (zone : Version) (workers : List (List Pair)) (last : ℕ) : Type 0 where
  pub once : (j : ℕ) → 0 < j → j ≤ last → times_made j (all_pairs workers) ≡ 1
  pub none_above : AllByRecursion (λ pair. pair.1.version ≤ last) (all_pairs workers)
  pub along : AllAlong (judged_by chunks passes origin zone workers) workers

-- some block was refused
abbrev pub some_refused : List (List Pair) → Bool
some_refused workers = list_any (λ pair. is_refused pair.1.ended) (all_pairs workers)
