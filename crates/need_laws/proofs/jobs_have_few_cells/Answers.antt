use Rattle.need_laws.proofs.RunLaws.{jobs_few}
use Rattle.need_laws.proofs.jobs_have_few_cells.Goals as goal

pub returns : goal.returns
returns c = jobs_few
