use Rattle.need_laws.proofs.RunLaws.{jobs_short}
use Rattle.need_laws.proofs.jobs_have_few_operations.Goals as goal

pub returns : goal.returns
returns c = jobs_short
