use Rattle.std.proofs.Common.{◌≡◌, max, drop}
use Rattle.job_model.specs.Needs.{longest_of_workers}
use Rattle.job_script.specs.Views.{workers_view}
use Rattle.job_script.proofs.needs.longest_of_workers.Given as goal

-- what is left gives what all gives
abbrev pub invariant-loop-worker : goal.invariant-loop-worker
invariant-loop-worker l = max (longest_of_workers (workers_view (drop l.worker-index l.workers))) l.most ≡ longest_of_workers (workers_view l.workers)
