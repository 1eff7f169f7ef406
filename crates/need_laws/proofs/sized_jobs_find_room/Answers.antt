use Rattle.need_laws.proofs.RoomLaws.{sized_room}
use Rattle.need_laws.proofs.sized_jobs_find_room.Goals as goal

pub returns : goal.returns
returns c = sized_room
