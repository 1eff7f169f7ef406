use Rattle.std.proofs.Common.{vec_len}
use Rattle.feed_threads.specs.Feeds.{numbered}
use Rattle.feed_threads.proofs.OrderLaws.{Placing}
use Rattle.feed_threads.proofs.ordering.place_served.Given as goal

abbrev pub invariant-loop-outcome : goal.invariant-loop-outcome
invariant-loop-outcome l = Placing (numbered l.fn.served) l.fn.places l.worker l.numbers.items l.list.items l.places

abbrev pub decreases-loop-outcome : goal.decreases-loop-outcome
decreases-loop-outcome l = vec_len l.list
