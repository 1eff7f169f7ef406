-- What workers are told to do where there are several zones. A zone is told by its number: its place in the list of zones, from 0.
use Rattle.std.specs.Prelude.{ℕ, List, map}
use Rattle.zone_model.specs.Names.{Name}
use Rattle.zone_model.specs.MasterFile.{Zone}
use Rattle.zone_model.specs.Transactions.{Transaction}
use Rattle.job_model.specs.declared.Ending.{Ending}
use Rattle.job_model.specs.declared.Weight.{Weight}

-- A question for the answer of whatever zone a name belongs to; a transaction of a zone; a zone is attached, so that names belong to
-- it, and is detached.
pub data Command : Type 0 where
  Get : (name : Name) (rtype : ℕ) → Command
  Block : (zone : ℕ) (weight : Weight) (asked : Transaction) (ending : Ending) → Command
  Attach : (zone : ℕ) → Command
  Detach : (zone : ℕ) → Command

-- zones, and the commands of each worker
pub record Job : Type 0 where
  pub zones : List Zone
  pub workers : List (List Command)

abbrev pub origins_of : List Zone → List Name
origins_of zones = map (λ zone. zone.origin) zones
