use Rattle.std.proofs.Common.{◌≡◌, ◌+◌, ◌++◌, drop}
use Rattle.job_report.specs.Summaries.{all_refused_lines}
use Rattle.job_report.proofs.summary.push_all_refusals.Given as goal

abbrev pub invariant-loop-place : goal.invariant-loop-place
invariant-loop-place l = l.out.items ++ all_refused_lines (l.place + 1) (drop l.place l.workers) ≡ l.fn.out.items ++ all_refused_lines 1 l.workers
