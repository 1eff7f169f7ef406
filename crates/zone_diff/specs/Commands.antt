-- The commands of a script that transactions are.
use Rattle.std.specs.Prelude.{◌≡◌, List, true, None}
use Rattle.zone_model.specs.Versions.{Operation}
use Rattle.job_model.specs.declared.Ending.TheVariants.{Commit}
use Rattle.job_model.specs.declared.Weight.TheVariants.{Heavy}
use Rattle.job_model.specs.Commands.{Command, Block}
use Rattle.job_model.specs.Jobs.{Script}
use Rattle.zone_diff.specs.Blocks.{changes}

-- a block `update` that is committed
abbrev pub committed : List Operation → Command
committed operations = Block Heavy (changes operations) Commit

-- commands may come: a worker has begun, or there is one list, and no block is open
pub record TakesCommands (s : Script) : Type 0 where
  pub begun : s.begun ≡ true
  pub closed : s.block ≡ None
