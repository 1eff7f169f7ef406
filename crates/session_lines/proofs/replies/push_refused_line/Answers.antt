use Rattle.std.proofs.Common.{append_assoc}
use Rattle.session_lines.proofs.replies.push_refused_line.Goals as goal

pub returns : goal.returns
returns c = simp append_assoc (simp (c.in_ok-push_number.ensures, append_assoc) at c.push_kind.ensures)
