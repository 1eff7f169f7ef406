use Rattle.std.proofs.Common.{◌≡◌, ◌<◌, List, ◌++◌, length, vec_len}
use Rattle.std.specs.List.{All}
use Rattle.feed_core.specs.Feeds.{Takings, IsGathered}
use Rattle.feed_core.proofs.feed.Feed.gathered.Given as goal

-- the seats that were taken out of the list are gathered
abbrev pub invariant-loop-seat : goal.invariant-loop-seat
invariant-loop-seat l = (out : List Takings) × (0 < length out) × (l.fn.seats.items ≡ l.seats.items ++ out) × All (λ seat. seat.feed ≡ l.self) l.seats.items × IsGathered l.self out l.whole

abbrev pub decreases-loop-seat : goal.decreases-loop-seat
decreases-loop-seat l = vec_len l.seats
