-- The commands of a script as the definitions see them.
use Rattle.std.specs.Prelude.{List, map, Vec}
use Rattle.std.specs.Global.{Global}
use Rattle.zone_model.specs.Transactions.{Transaction}
use Rattle.zone_change.specs.Views.{operation_view, prerequisite_view}
use Rattle.job_model.specs.Commands as jobs
use Rattle.job_script.specs.declared.commands.Command.{Command}
use Rattle.job_script.specs.declared.commands.Command.TheVariants as command
use Rattle.job_script.specs.declared.commands.Block.{Block}
use Rattle.job_script.specs.declared.commands.Worker.{Worker}
use Rattle.job_script.specs.declared.commands.Job.{Job}

abbrev pub asked_view : Block → Transaction
asked_view b = record { needs = map prerequisite_view b.needs.items; operations = map operation_view b.operations.items }

abbrev pub block_view : Block → jobs.Command
block_view b = jobs.Block b.weight (asked_view b) b.ending

abbrev pub command_view : Command → jobs.Command
command_view (command.Ask question) = jobs.Ask question
command_view command.Hold = jobs.Hold
command_view (command.AskHeld question) = jobs.AskHeld question
command_view command.Release = jobs.Release
command_view (command.Block b) = block_view b
command_view command.Compact = jobs.Compact

abbrev pub worker_view : Worker → List jobs.Command
worker_view w = map command_view w.commands.items

abbrev pub workers_view : List Worker → List (List jobs.Command)
workers_view workers = map worker_view workers

abbrev pub job_view : Job → List (List jobs.Command)
job_view job = workers_view job.workers.items

-- it may wait for the right to write
abbrev pub MayWait : Command → Type 0
MayWait (command.Ask question) = ⊥
MayWait command.Hold = ⊥
MayWait (command.AskHeld question) = ⊥
MayWait command.Release = ⊥
MayWait (command.Block b) = Unit {0}
MayWait command.Compact = Unit {0}

-- one list
abbrev pub list_view : Vec Command Global → List jobs.Command
list_view commands = map command_view commands.items
