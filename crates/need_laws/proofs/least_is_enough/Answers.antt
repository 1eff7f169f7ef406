use Rattle.need_laws.proofs.RoomLaws.{roomy_still}
use Rattle.need_laws.proofs.least_is_enough.Goals as goal

pub returns : goal.returns
returns c = roomy_still
