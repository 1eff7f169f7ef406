-- What a feed prints.
use Rattle.std.specs.Prelude.{◌≡◌, ℕ, Bool, List, length}
use Rattle.job_model.specs.Commands.{FedJob}
use Rattle.job_model.specs.Outcomes.{Lawful}
use Rattle.job_model.specs.Feeds.{Fed, FedPair, all_numbers, by_worker, fed_commands, fed_report, passes_fed, some_fed_refused}

-- The text is the report of one list of commands that was handed out to so many workers, whose outcomes are lawful, and in which a
-- transaction was refused or not.
pub record IsFeedOf (workers chunks : ℕ) (job : FedJob) (refused : Bool) (text : List ℕ) : Type 0 where
  pub fed : List FedPair
  pub last : ℕ
  pub same : fed_commands fed ≡ job.commands
  pub handed_out : Fed (length job.commands) (all_numbers workers fed)
  pub lawful : Lawful chunks (passes_fed workers) job.origin job.zone (by_worker workers fed) last
  pub is : text ≡ fed_report job.origin job.zone workers fed last
  pub some_refused : refused ≡ some_fed_refused fed
