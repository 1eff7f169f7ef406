use Rattle.zones_script.proofs.ListLemmas.{workers_told}
use Rattle.zones_script.proofs.laws.scripts_tell_their_zones.Goals as goal

pub returns : goal.returns
returns c = workers_told
