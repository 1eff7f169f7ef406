use Rattle.session_laws.proofs.ListLaws.{list_says}
use Rattle.session_laws.proofs.lists_are_sessions.Goals as goal

pub returns : goal.returns
returns c = list_says
