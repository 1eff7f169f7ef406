use Rattle.session_laws.proofs.LineLaws.{answered_front, ended_front}
use Rattle.session_laws.proofs.lines_come_behind_others.Goals as goal

pub returns : goal.returns
returns c = record { answered = answered_front; ended = ended_front }
