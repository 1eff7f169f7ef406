use Rattle.std.proofs.Common.{◌≡◌, ◌+◌, drop}
use Rattle.job_model.specs.Needs.{cells_of_workers}
use Rattle.job_script.specs.Views.{workers_view}
use Rattle.job_script.proofs.needs.cells_of_workers.Given as goal

-- what is left gives what all gives
abbrev pub invariant-loop-worker : goal.invariant-loop-worker
invariant-loop-worker l = l.cells + cells_of_workers (workers_view (drop l.worker-index l.workers)) ≡ cells_of_workers (workers_view l.workers)
