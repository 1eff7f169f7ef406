use Rattle.need_laws.proofs.RoomLaws.{zone_room}
use Rattle.need_laws.proofs.zones_have_room.Goals as goal

pub returns : goal.returns
returns c = zone_room
