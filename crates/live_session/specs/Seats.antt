-- What a worker with the two passes of an index has run.
use Rattle.std.specs.Prelude.{◌≡◌, ℕ, List}
use Rattle.zone_model.specs.Names.{Name}
use Rattle.job_model.specs.Commands.{Command}
use Rattle.job_report.specs.declared.outcomes.Outcome.{Outcome}
use Rattle.shared_cells.specs.declared.view.TableSize.{TableSize}
use Rattle.job_commands.specs.Commands.{IsIndex}
use Rattle.job_commands.specs.Histories.{OpenedWith, StandsAs}
use Rattle.job_commands.specs.Sittings.{Sits}
use Rattle.job_commands.specs.Steps.{WorkerPasses}
use Rattle.session_talk.specs.Workers.{Opened}

-- On an index of this size, which was opened so, a worker's passes that have come so far ran these commands with these outcomes.
pub record HasRun (origin : Name) (size : TableSize) (t : WorkerPasses) (o : Opened) (commands : List Command) (os : List Outcome) : Type 0 where
  pub opened_with : OpenedWith
  pub index : IsIndex opened_with origin size
  pub chunks : opened_with.chunks ≡ o.chunks
  pub same : opened_with.origin ≡ o.origin
  pub stands : StandsAs opened_with.opening o.zone
  pub sits : Sits opened_with t commands os
