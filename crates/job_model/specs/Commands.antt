-- What workers are told to do.
use Rattle.std.specs.Prelude.{◌≡◌, Bool, true, false, List, [], ◌∷◌}
use Rattle.zone_model.specs.Names.{Name}
use Rattle.zone_model.specs.Versions.{Version}
use Rattle.zone_model.specs.Transactions.{Transaction}
use Rattle.job_model.specs.declared.Ending.{Ending}
use Rattle.job_model.specs.declared.Question.{Question}
use Rattle.job_model.specs.declared.Weight.{Weight}

-- A question to the current version; a snapshot of that is taken, is asked, and is given back; a transaction; a compaction, which is
-- a transaction without operations.
pub data Command : Type 0 where
  Ask : (question : Question) → Command
  Hold : Command
  AskHeld : (question : Question) → Command
  Release : Command
  Block : (weight : Weight) (asked : Transaction) (ending : Ending) → Command
  Compact : Command

-- a zone of an origin, and the commands of each worker
pub record Job : Type 0 where
  pub origin : Name
  pub zone : Version
  pub workers : List (List Command)

-- a zone of an origin, and one list of commands, each of which is run by some worker
pub record FedJob : Type 0 where
  pub origin : Name
  pub zone : Version
  pub commands : List Command

-- ---- snapshots of a worker

-- whether a snapshot is held behind a command
abbrev pub held_after : Bool → Command → Bool
held_after held (Ask question) = held
held_after held Hold = true
held_after held (AskHeld question) = held
held_after held Release = false
held_after held (Block _ asked ending) = held
held_after held Compact = held

-- A snapshot is taken only while none is held, and asked or given back only while one is.
abbrev pub MayCome : Bool → Command → Type 0
MayCome held (Ask question) = Unit {0}
MayCome held Hold = held ≡ false
MayCome held (AskHeld question) = held ≡ true
MayCome held Release = held ≡ true
MayCome held (Block _ asked ending) = Unit {0}
MayCome held Compact = Unit {0}

-- each of a worker's commands may come where it stands
abbrev pub InTurn : Bool → List Command → Type 0
InTurn held [] = Unit {0}
InTurn held (command ∷ commands) = MayCome held command × InTurn (held_after held command) commands

-- it needs no snapshot: a question to the current version, a transaction or a compaction
abbrev pub NeedsNoSnapshot : Command → Type 0
NeedsNoSnapshot (Ask question) = Unit {0}
NeedsNoSnapshot Hold = ⊥
NeedsNoSnapshot (AskHeld question) = ⊥
NeedsNoSnapshot Release = ⊥
NeedsNoSnapshot (Block _ asked ending) = Unit {0}
NeedsNoSnapshot Compact = Unit {0}
