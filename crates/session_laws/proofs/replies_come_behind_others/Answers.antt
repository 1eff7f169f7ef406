use Rattle.session_laws.proofs.FrontLaws.{begins_with}
use Rattle.session_laws.proofs.replies_come_behind_others.Goals as goal

pub returns : goal.returns
returns c = begins_with
