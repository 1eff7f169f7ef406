use Rattle.need_laws.proofs.SmallLaws.{small_room}
use Rattle.need_laws.proofs.small_sets_find_room.Goals as goal

pub returns : goal.returns
returns c = small_room
