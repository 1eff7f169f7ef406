-- What workers are told by a script over zones, in the words of scripts of one zone.
use Rattle.std.specs.Prelude.{◌≡◌, ℕ, ◌<◌, ◌≤◌, List, [], ◌∷◌, ◌++◌, length, Some, Ok, slice_get, codes}
use Rattle.std.specs.List.{AllByRecursion}
use Rattle.zone_model.specs.Names.{Name}
use Rattle.zone_model.specs.Transactions.{Transaction}
use Rattle.job_model.specs.declared.Ending.{Ending}
use Rattle.job_model.specs.declared.Weight.{Weight}
use Rattle.job_model.specs.declared.Weight.TheVariants.{Light, Heavy}
use Rattle.job_model.specs.Commands as alone
use Rattle.job_model.specs.Jobs as jobs
use Rattle.job_model.specs.Jobs.{worker_limit, command_limit}
use Rattle.zones_model.specs.Commands.{Command, Get, Block, Attach, Detach}

-- the line that a block begins with in a script of one zone
abbrev pub opening : Weight → List ℕ
opening Light = codes "write"
opening Heavy = codes "update"

-- A block of a zone: some lines in a row, put behind a worker's line and one that opens a block, are a script of that zone alone, in which
-- the worker has this block and nothing else.
pub record IsBlockOf (origins : List Name) (lines : List (List ℕ)) (zone : ℕ) (weight : Weight) (asked : Transaction) (ending : Ending) : Type 0 where
  pub origin : Name
  pub of_zone : slice_get origins zone ≡ Some origin
  pub before : List (List ℕ)
  pub own : List (List ℕ)
  pub behind : List (List ℕ)
  pub in_row : lines ≡ before ++ (own ++ behind)
  pub start : ℕ
  pub said : jobs.script_of origin start (codes "worker" ∷ opening weight ∷ own) ≡ Ok ((alone.Block weight asked ending ∷ []) ∷ [])

-- a command that lines say, of zones of these origins
abbrev pub IsTold : List Name → List (List ℕ) → Command → Type 0
IsTold origins lines (Get name rtype) = Unit {0}
IsTold origins lines (Block zone weight asked ending) = IsBlockOf origins lines zone weight asked ending
IsTold origins lines (Attach zone) = zone < length origins
IsTold origins lines (Detach zone) = zone < length origins

-- a worker's list
pub record IsList (origins : List Name) (lines : List (List ℕ)) (commands : List Command) : Type 0 where
  pub few : length commands ≤ command_limit
  pub each : AllByRecursion (IsTold origins lines) commands

-- there are workers, no more than there may be, each with a list
pub record AreLists (origins : List Name) (lines : List (List ℕ)) (workers : List (List Command)) : Type 0 where
  pub some : 0 < length workers
  pub few : length workers ≤ worker_limit
  pub each : AllByRecursion (IsList origins lines) workers
