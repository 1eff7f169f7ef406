-- What workers have run, when their passes are back.
use Rattle.std.specs.Prelude.{List}
use Rattle.job_model.specs.Commands.{Command}
use Rattle.qp_multi.specs.declared.meaning.Named.{Ghosts}
use Rattle.qp_multi.specs.Passes.{Known, known_at}
use Rattle.job_commands.specs.Closings.{Gathers}
use Rattle.job_commands.specs.Commands.{known_in}
use Rattle.job_commands.specs.Histories.{OpenedWith}
use Rattle.job_commands.specs.Works.{Numbers, WorkerRan, ended}
use Rattle.job_threads.specs.declared.job.Gathered.{Gathered}
use Rattle.job_threads.specs.declared.worker.WorkerEnd.{WorkerEnd}

module _ {Y : Type 0} {N : Ghosts Y} where
  -- a worker with passes of these numbers ran these commands
  abbrev pub WorkerEndRan : OpenedWith → Numbers → List Command → WorkerEnd Y N → Type 0
  WorkerEndRan s numbers commands d = WorkerRan s numbers (ended (known_at d.asks.seat) (known_at d.spare.seat)) commands d.outcomes.list.items

  -- workers with passes that knew these before ran these commands, and all passes are back
  abbrev pub AreGathered : OpenedWith → List Known → List (List Command) → Gathered Y N → Type 0
  AreGathered s before workers g = Gathers s before workers g.outcomes.items (known_in g.passes.items) (known_at g.main.seat)
