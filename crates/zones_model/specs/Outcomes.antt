-- How the commands over several zones may end.
use Rattle.std.specs.Prelude.{◌≡◌, ℕ, zero, suc, ◌+◌, ◌-◌, ◌<◌, ◌≤◌, Bool, true, false, List, [], ◌∷◌, ◌++◌, length, map, ◌==◌, if◌then◌else◌, Option, Some, None, slice_get}
use Rattle.std.specs.List.{AllByRecursion, flat_map}
use Rattle.std.specs.Option.{option_map}
use Rattle.zone_model.specs.Names.{Name}
use Rattle.zone_model.specs.MasterFile.{Zone}
use Rattle.zone_model.specs.Transactions.{Transaction}
use Rattle.zone_model.specs.Versions.{Version}
use Rattle.job_model.specs.Commands as asks
use Rattle.job_model.specs.declared.Question.TheVariants as question
use Rattle.job_model.specs.Outcomes as one
use Rattle.job_model.specs.declared.Ending.{Ending}
use Rattle.job_model.specs.declared.Weight.{Weight}
use Rattle.zones_model.specs.Commands.{Command, Get, Block, Attach, Detach, origins_of}
use Rattle.zones_model.specs.Tables.{Change, Attaches, Detaches, attached_after, zone_for}
use Rattle.zones_model.specs.declared.TableCause.{TableCause}
use Rattle.zones_model.specs.declared.TableCause.TheVariants.{Exists, Missing, Spent}

-- a zone, and the version of it that is shown
pub record Shown : Type 0 where
  pub zone : ℕ
  pub version : ℕ

-- A command with how it ended. A question was put to a version of the table, and to one of the zone that this has for the name, if there is
-- one; a block ended as it does on an index of its own; a change of the table made a version of that, or was refused on one.
pub data CommandEnd : Type 0 where
  Got : (name : Name) (rtype : ℕ) (table : ℕ) (shown : Option Shown) → CommandEnd
  Ran : (zone : ℕ) (weight : Weight) (asked : Transaction) (ending : Ending) (outcome : one.Outcome) → CommandEnd
  Attached : (zone table : ℕ) (refused : Option TableCause) → CommandEnd
  Detached : (zone table : ℕ) (refused : Option TableCause) → CommandEnd

abbrev pub command_of : CommandEnd → Command
command_of (Got name rtype table shown) = Get name rtype
command_of (Ran zone weight asked ending outcome) = Block zone weight asked ending
command_of (Attached zone table refused) = Attach zone
command_of (Detached zone table refused) = Detach zone

-- ---- one zone

-- what a question tells of a zone
abbrev pub pair_shown : ℕ → Name → ℕ → Option Shown → List one.Pair
pair_shown zone name rtype None = []
pair_shown zone name rtype (Some s) = if s.zone == zone then (asks.Ask (question.Get name rtype), record { version = s.version; ended = one.Shown }) ∷ [] else []

-- a command as one of a zone with its outcome there, if it is of that zone
abbrev pub pairs_in : ℕ → CommandEnd → List one.Pair
pairs_in zone (Got name rtype table shown) = pair_shown zone name rtype shown
pairs_in zone (Ran changed weight asked ending outcome) = if changed == zone then (asks.Block weight asked ending, outcome) ∷ [] else []
pairs_in zone (Attached changed table refused) = []
pairs_in zone (Detached changed table refused) = []

-- those of a worker, and of all

abbrev pub pairs_of : ℕ → List CommandEnd → List one.Pair
pairs_of zone worker = flat_map (pairs_in zone) worker

abbrev pub workers_in : ℕ → List (List CommandEnd) → List (List one.Pair)
workers_in zone workers = map (pairs_of zone) workers

-- ---- the table

-- a change that was made, with the table's version that it made
abbrev pub unless_refused : Change → ℕ → Option TableCause → Option (ℕ × Change)
unless_refused change table None = Some (table, change)
unless_refused change table (Some cause) = None

abbrev pub made_by : CommandEnd → Option (ℕ × Change)
made_by (Got name rtype table shown) = None
made_by (Ran zone _ asked ending outcome) = None
made_by (Attached zone table refused) = unless_refused (Attaches zone) table refused
made_by (Detached zone table refused) = unless_refused (Detaches zone) table refused

-- it made the table's version t
abbrev pub made : ℕ → Option (ℕ × Change) → Bool
made t None = false
made t (Some x) = x.0 == t

abbrev pub times_made : ℕ → List CommandEnd → ℕ
times_made t [] = 0
times_made t (done ∷ rest) = (if made t (made_by done) then 1 else 0) + times_made t rest

-- the change that made version t
abbrev pub change_at : ℕ → List CommandEnd → Option Change
change_at t [] = None
change_at t (done ∷ rest) = if made t (made_by done) then option_map (λ x. x.1) (made_by done) else change_at t rest

-- whether a zone is attached in version t: at first all are
abbrev pub attached_at : List CommandEnd → ℕ → ℕ → Bool
attached_at all zero zone = true
attached_at all (suc t) zone = attached_after (change_at (suc t) all) zone (attached_at all t zone)

-- the table's version that a command tells, if any
abbrev pub table_told : CommandEnd → Option ℕ
table_told (Got name rtype table shown) = Some table
table_told (Ran zone _ asked ending outcome) = None
table_told (Attached zone table refused) = Some table
table_told (Detached zone table refused) = Some table

abbrev pub seen_after : ℕ → Option ℕ → ℕ
seen_after seen None = seen
seen_after seen (Some table) = table

-- a change of the table that ended so, where a zone is attached or not by the versions of the table, and was to be so before and isn't
abbrev pub ChangeEnds : (ℕ → Bool) → Bool → TableCause → ℕ → ℕ → Option TableCause → Type 0
ChangeEnds attached wanted otherwise seen table None = (seen < table) × (attached (table - 1) ≡ wanted)
ChangeEnds attached wanted otherwise seen table (Some Spent) = (seen ≤ table) × (table ≡ one.last_version) × (attached table ≡ wanted)
ChangeEnds attached wanted otherwise seen table (Some cause) = (seen ≤ table) × (cause ≡ otherwise) × (attached table ≡ (if wanted then false else true))

-- A command that ended so, as far as the table is concerned, by a worker that had seen a version of that. The zone of a question is the one
-- that the version has for its name.
abbrev pub EndsAtTable : List Name → (ℕ → ℕ → Bool) → ℕ → CommandEnd → Type 0
EndsAtTable origins attached seen (Got name rtype table shown) = (seen ≤ table) × (option_map (λ s. s.zone) shown ≡ zone_for (attached table) origins name)
EndsAtTable origins attached seen (Ran zone _ asked ending outcome) = Unit {0}
EndsAtTable origins attached seen (Attached zone table refused) = ChangeEnds (λ t. attached t zone) false Exists seen table refused
EndsAtTable origins attached seen (Detached zone table refused) = ChangeEnds (λ t. attached t zone) true Missing seen table refused

-- the commands of one worker, from what it had seen of the table
abbrev pub Along : List Name → (ℕ → ℕ → Bool) → ℕ → List CommandEnd → Type 0
Along origins attached seen [] = Unit {0}
Along origins attached seen (done ∷ rest) = EndsAtTable origins attached seen done × Along origins attached (seen_after seen (table_told done)) rest

abbrev pub all_done : List (List CommandEnd) → List CommandEnd
all_done [] = []
all_done (worker ∷ workers) = worker ++ all_done workers

abbrev pub IsTold : ℕ → Option ℕ → Type 0
IsTold last None = Unit {0}
IsTold last (Some table) = table ≤ last

-- Each version of the table from 1 to the last was made once, by one change; none is above the last; and each worker's commands ended as they
-- may.
pub record TableLawful (origins : List Name) (workers : List (List CommandEnd)) (last : ℕ) : Type 0 where
  pub once : (t : ℕ) → 0 < t → t ≤ last → times_made t (all_done workers) ≡ 1
  pub none_above : AllByRecursion (λ done. IsTold last (table_told done)) (all_done workers)
  pub along : AllByRecursion (Along origins (attached_at (all_done workers)) 0) workers

-- ---- all of it

-- a pass of each index for each worker, and one for the last lines
abbrev pub passes_for : ℕ → ℕ
passes_for workers = workers + 1

-- The last version of the table, and that of each zone in the order of their numbers.
pub record Last : Type 0 where
  pub table : ℕ
  pub zones : List ℕ

-- The table's versions are lawful, and each zone's are as those of a job over that zone alone, on an index of so many chunks. That a question shows
-- a version of the table and one of a zone doesn't say that both were current at one moment.
pub record ZonesLawful (chunks : ℕ) (zones : List Zone) (workers : List (List CommandEnd)) (last : Last) : Type 0 where
  pub table : TableLawful (origins_of zones) workers last.table
  pub each : (number : ℕ) (zone : Zone) → slice_get zones number ≡ Some zone → (version : ℕ) → slice_get last.zones number ≡ Some version
      → one.Lawful chunks (passes_for (length workers)) zone.origin zone.pairs (workers_in number workers) version
  pub many : length last.zones ≡ length zones

-- version v of the zone of a number
abbrev pub version_of : Zone → ℕ → List (List CommandEnd) → ℕ → Version
version_of zone number workers = one.version_at zone.origin zone.pairs (one.all_pairs (workers_in number workers))
