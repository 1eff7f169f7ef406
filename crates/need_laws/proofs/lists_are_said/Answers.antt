use Rattle.need_laws.proofs.ReadLaws.{list_said}
use Rattle.need_laws.proofs.lists_are_said.Goals as goal

pub returns : goal.returns
returns c = list_said
