use Rattle.feed_core.proofs.Keeping.{deals_keep}
use Rattle.feed_core.proofs.seat.FeedSeat.dealt.Goals as goal

pub another-requires-clause-rule : goal.another-requires-clause-rule
another-requires-clause-rule c = deals_keep _ _ c.requires.part.part c.requires.part.nothing c.requires.part.not_done
