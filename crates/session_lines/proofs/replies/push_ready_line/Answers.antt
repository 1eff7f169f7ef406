use Rattle.std.proofs.Common.{append_assoc}
use Rattle.session_lines.proofs.replies.push_ready_line.Goals as goal

pub returns : goal.returns
returns c = simp append_assoc at c.push_number.ensures
