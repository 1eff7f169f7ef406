use Rattle.std.proofs.Common.{◌<◌, IfSome, subst}
use Rattle.feed_core.specs.Feeds.{takings_of, remaining}
use Rattle.feed_core.proofs.Seating.{fewer}
use Rattle.feed_core.proofs.seat.FeedSeat.take.Goals as goal

pub returns-clause-fewer : goal.returns-clause-fewer
returns-clause-fewer g c =
    let taken = c.next_number-taken in
    let after = c.is_none-self-inside.result in
    subst (λ old. IfSome taken.result (λ _. remaining (takings_of taken.new.pass after) < remaining old)) c.self.view_is
    (fewer c.self.inside.pass taken.new.pass c.self.inside.done after taken.result c.self.invariant taken.ensures.taken)
