use Rattle.feed_core.proofs.Keeping.{takes_keep, takes_learn}
use Rattle.feed_core.proofs.seat.next_number.Goals as goal

pub pop_as-requires-clause-rule : goal.pop_as-requires-clause-rule
pop_as-requires-clause-rule g c =
    let can = c.requires.part in (takes_keep _ _ can.part can.filled can.marked can.mark, takes_learn _ _ can.part can.marked)
