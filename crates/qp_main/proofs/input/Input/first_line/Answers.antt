use Rattle.qp_main.proofs.SeveralLemmas.{starts_late}
use Rattle.qp_main.proofs.input.Input.first_line.Goals as goal

pub returns-clause-some : goal.returns-clause-some
returns-clause-some c = starts_late c.self.inside.bytes.items c.self.inside.first_line c.self.invariant.1.first
