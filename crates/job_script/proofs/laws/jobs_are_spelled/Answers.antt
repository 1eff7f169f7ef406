use Rattle.job_script.proofs.SpelledLemmas.{job_said, job_says}
use Rattle.job_script.proofs.laws.jobs_are_spelled.Goals as goal

pub returns-clause-spelled : goal.returns-clause-spelled
returns-clause-spelled c = job_says

pub returns-clause-only : goal.returns-clause-only
returns-clause-only c = job_said
