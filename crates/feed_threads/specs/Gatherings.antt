-- What workers of one list have run, when their passes are back.
use Rattle.std.specs.Prelude.{ℕ, List}
use Rattle.job_model.specs.Commands.{Command}
use Rattle.qp_multi.specs.declared.meaning.Named.{Ghosts}
use Rattle.qp_multi.specs.Passes.{Known, known_at}
use Rattle.job_commands.specs.Closings.{Gathers}
use Rattle.job_commands.specs.Commands.{known_in}
use Rattle.job_commands.specs.Histories.{OpenedWith}
use Rattle.job_commands.specs.Works.{WorkerRan, ended, only}
use Rattle.feed_threads.specs.Feeds.{commands_at, commands_served, outcomes_served}
use Rattle.feed_threads.specs.declared.feeding.FedWorkerEnd.{FedWorkerEnd}
use Rattle.feed_threads.specs.declared.feeding.FedGathered.{FedGathered}

module _ {Y : Type 0} {N : Ghosts Y} where
  -- a worker with a pass of this number, which knew this before, ran the commands that it took of a list
  abbrev pub WorkerEndRan : OpenedWith → ℕ → Known → List Command → FedWorkerEnd Y N → Type 0
  WorkerEndRan s number before commands d = WorkerRan s (only number) (ended (known_at d.pass.seat) before) (commands_at commands d.served.numbers.items) d.served.outcomes.list.items

  -- workers with passes that knew these before ran the commands that they took of a list, and all passes are back
  abbrev pub AreGathered : OpenedWith → List Known → List Command → FedGathered Y N → Type 0
  AreGathered s before commands g = Gathers s before (commands_served commands g.served.items) (outcomes_served g.served.items) (known_in g.passes.items) (known_at g.main.seat)
