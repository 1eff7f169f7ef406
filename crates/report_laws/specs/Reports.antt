-- What a report is said to be of.
use Rattle.std.specs.Prelude.{◌≡◌, ℕ, List, length, map}
use Rattle.job_model.specs.Commands.{Job}
use Rattle.job_model.specs.Outcomes.{Pair, Lawful, passes_for}
use Rattle.job_model.specs.Reports.{report}

-- The text is the report of a job's commands with these outcomes, which are lawful, and of a last version.
pub record IsReportOf (chunks : ℕ) (job : Job) (text : List ℕ) (workers : List (List Pair)) (last : ℕ) : Type 0 where
  pub same : map (map (λ pair. pair.0)) workers ≡ job.workers
  pub lawful : Lawful chunks (passes_for (length job.workers)) job.origin job.zone workers last
  pub is : text ≡ report job.origin job.zone workers last
