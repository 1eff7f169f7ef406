use Rattle.std.proofs.Common.{◌≡◌, ◌+◌, drop, length}
use Rattle.job_model.specs.Outcomes.{is_committed, is_refused}
use Rattle.job_report.specs.Summaries.{told_count}
use Rattle.job_report.proofs.summary.tally_worker.Given as goal

-- what is left gives what all gives
abbrev pub invariant-loop-outcome : goal.invariant-loop-outcome
invariant-loop-outcome l =
    (l.tally.commands + length (drop l.outcome-index l.list) ≡ l.fn.before.commands + length l.list)
    × (l.tally.committed + told_count is_committed (drop l.outcome-index l.list) ≡ l.fn.before.committed + told_count is_committed l.list)
    × (l.tally.refused + told_count is_refused (drop l.outcome-index l.list) ≡ l.fn.before.refused + told_count is_refused l.list)
