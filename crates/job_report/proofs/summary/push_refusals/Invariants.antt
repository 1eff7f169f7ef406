use Rattle.std.proofs.Common.{◌≡◌, ◌+◌, ◌++◌, drop}
use Rattle.job_report.specs.Summaries.{refused_lines}
use Rattle.job_report.proofs.summary.push_refusals.Given as goal

abbrev pub invariant-loop-place : goal.invariant-loop-place
invariant-loop-place l = l.out.items ++ refused_lines l.worker (l.place + 1) (drop l.place l.list) ≡ l.fn.out.items ++ refused_lines l.worker 1 l.list
