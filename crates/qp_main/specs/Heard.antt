-- What a gate is told of where the commands of an input are run.
use Rattle.std.specs.Prelude.{ℕ, ◌+◌, ◌<◌, ◌≤◌, List, length, Option, Some, None, Result, Ok, Err}
use Rattle.zone_model.specs.Names.{Name}
use Rattle.job_model.specs.Commands.{FedJob, Job}
use Rattle.job_model.specs.Jobs.{JobRefusal, fed_job_of, job_of}
use Rattle.zones_model.specs.Commands.{Job as ZonesJob}
use Rattle.zones_script.specs.Jobs.{ZonesRefusal, zones_job_of}
use Rattle.command_line.specs.Invocations.{Invocation, Verb, Run, Feed, Make, Zones}
use Rattle.job_commands.specs.Calls.{AllHeard, Call, IsHeard}
use Rattle.zones_threads.specs.Calls as several
use Rattle.qp_main.specs.Due.{input_of}
use Rattle.qp_main.specs.declared.status.Status.{Status}
use Rattle.qp_main.specs.declared.status.Status.TheVariants as status

-- the status says that the commands were run
abbrev pub HasRun : Status → Type 0
HasRun status.Done = Unit {0}
HasRun status.SomeRefused = Unit {0}
HasRun _ = ⊥

-- it is so where they were
abbrev pub WhereRun : Type 0 → Status → List ℕ → Type 0
WhereRun so s text = HasRun s → so

-- of so many commands, each by one of so many workers; both are counted from 1
abbrev pub ListHeard : (Call → Type 0) → ℕ → ℕ → Type 0
ListHeard hears workers count = (place : ℕ) → place < count → (worker : ℕ) × (0 < worker) × (worker ≤ workers) × IsHeard hears worker (place + 1)

-- of all commands of a job that is read, of each worker's by that worker
abbrev pub JobHeard : (Call → Type 0) → Result Job JobRefusal → Type 0
JobHeard hears (Ok job) = AllHeard hears 1 job.workers
JobHeard hears (Err e) = Unit {0}

-- of all commands of a list that is read, by so many workers
abbrev pub FedJobHeard : (Call → Type 0) → ℕ → Result FedJob JobRefusal → Type 0
FedJobHeard hears workers (Ok job) = ListHeard hears workers (length job.commands)
FedJobHeard hears workers (Err e) = Unit {0}

-- of all commands of a job over several zones that is read
abbrev pub ZonesJobHeard : (Call → Type 0) → Result ZonesJob ZonesRefusal → Type 0
ZonesJobHeard hears (Ok job) = several.AllHeard hears 1 job.workers
ZonesJobHeard hears (Err e) = Unit {0}

-- of all commands that bytes say
abbrev pub HeardInput : (Call → Type 0) → Verb → Name → List ℕ → Type 0
HeardInput hears Run origin bytes = JobHeard hears (job_of origin bytes)
HeardInput hears (Make load) origin bytes = JobHeard hears (job_of origin bytes)
HeardInput hears (Feed workers) origin bytes = FedJobHeard hears workers (fed_job_of origin bytes)
HeardInput hears Zones origin bytes = ZonesJobHeard hears (zones_job_of bytes)
HeardInput hears _ origin bytes = Unit {0}

abbrev pub HeardGiven : (Call → Type 0) → Invocation → Option (List ℕ) → Type 0
HeardGiven hears i (Some bytes) = HeardInput hears i.verb i.origin bytes
HeardGiven hears i None = Unit {0}

-- the same by the words of the command line and the bytes that a source has left
abbrev pub Heard : (Call → Type 0) → Option Invocation → Option (List ℕ) → Type 0
Heard hears (Some i) left = HeardGiven hears i (input_of i.verb left)
Heard hears None left = Unit {0}
