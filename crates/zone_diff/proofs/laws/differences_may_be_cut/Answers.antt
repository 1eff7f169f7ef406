use Rattle.zone_diff.proofs.SaidLemmas.{cut}
use Rattle.zone_diff.proofs.laws.differences_may_be_cut.Goals as goal

pub returns : goal.returns
returns c = cut
