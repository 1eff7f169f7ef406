use Rattle.session_talk.proofs.ServeLaws.{left_refused}
use Rattle.session_talk.proofs.serving.push_left_open.Goals as goal

pub returns-in-Some : goal.returns-in-Some
returns-in-Some c = left_refused c.push_refused.result _ _ _ _ _ c.left_open.ensures c.in-Some.is c.push_refused.ensures
