use Rattle.rr_data.proofs.OneEscapeLemmas.{one_escape}
use Rattle.rr_data.proofs.laws.escapes_are_alike.Goals as goal

pub returns : goal.returns
returns c = one_escape
