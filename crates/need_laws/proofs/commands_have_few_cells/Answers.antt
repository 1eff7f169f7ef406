use Rattle.need_laws.proofs.RunLaws.{commands_few}
use Rattle.need_laws.proofs.commands_have_few_cells.Goals as goal

pub returns : goal.returns
returns c = commands_few
