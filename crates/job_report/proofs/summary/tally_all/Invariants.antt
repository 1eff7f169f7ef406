use Rattle.std.proofs.Common.{◌≡◌, ◌+◌, drop}
use Rattle.job_model.specs.Outcomes.{is_committed, is_refused}
use Rattle.job_report.specs.Summaries.{all_count, commands_in}
use Rattle.job_report.proofs.summary.tally_all.Given as goal

-- what is left gives what all gives
abbrev pub invariant-loop-outcomes : goal.invariant-loop-outcomes
invariant-loop-outcomes l =
    (l.tally.commands + commands_in (drop l.outcomes-index l.workers) ≡ commands_in l.workers)
    × (l.tally.committed + all_count is_committed (drop l.outcomes-index l.workers) ≡ all_count is_committed l.workers)
    × (l.tally.refused + all_count is_refused (drop l.outcomes-index l.workers) ≡ all_count is_refused l.workers)
