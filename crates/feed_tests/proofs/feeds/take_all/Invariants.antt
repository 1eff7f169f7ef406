use Rattle.std.proofs.Common.{◌≡◌, ◌++◌}
use Rattle.feed_core.specs.Feeds.{remaining}
use Rattle.feed_tests.proofs.feeds.take_all.Given as goal

abbrev pub invariant-loop-number : goal.invariant-loop-number
invariant-loop-number g l = (l.seat.feed ≡ l.feed) × (l.seat.taken ≡ l.fn.seat.taken ++ l.numbers.items)

abbrev pub decreases-loop-number : goal.decreases-loop-number
decreases-loop-number g l = remaining l.seat
