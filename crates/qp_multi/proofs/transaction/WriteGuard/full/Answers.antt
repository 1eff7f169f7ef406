use Rattle.std.proofs.Common.{refl}
use Rattle.qp_multi.proofs.transaction.WriteGuard.full.Goals as goal

pub returns : goal.returns
returns g c = (c.kept.result, c.kept.ensures, refl)
