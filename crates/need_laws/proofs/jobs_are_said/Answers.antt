use Rattle.need_laws.proofs.ReadLaws.{job_said}
use Rattle.need_laws.proofs.jobs_are_said.Goals as goal

pub returns : goal.returns
returns c = job_said
