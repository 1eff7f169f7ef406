use Rattle.std.proofs.Common.{vec_len}
use Rattle.feed_threads.proofs.OrderLaws.{Ordering}
use Rattle.feed_threads.proofs.ordering.in_order.Given as goal

abbrev pub invariant-loop-one : goal.invariant-loop-one
invariant-loop-one l = Ordering l.fn.served.items l.end l.served.items l.places.items

abbrev pub decreases-loop-one : goal.decreases-loop-one
decreases-loop-one l = vec_len l.served
