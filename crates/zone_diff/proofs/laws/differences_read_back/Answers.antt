use Rattle.zone_diff.proofs.ScriptLemmas.{read_back, read_on}
use Rattle.zone_diff.proofs.laws.differences_read_back.Goals as goal

pub returns-clause-list : goal.returns-clause-list
returns-clause-list c = read_back

pub returns-clause-anywhere : goal.returns-clause-anywhere
returns-clause-anywhere c = read_on
