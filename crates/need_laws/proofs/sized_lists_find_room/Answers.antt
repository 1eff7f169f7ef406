use Rattle.need_laws.proofs.ListLaws.{list_room}
use Rattle.need_laws.proofs.sized_lists_find_room.Goals as goal

pub returns : goal.returns
returns c = λ job said fed same workers. list_room job said fed same workers
