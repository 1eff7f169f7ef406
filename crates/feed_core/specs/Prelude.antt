-- The words that this crate's clauses cite, passed on from one place. Declares nothing.
pub use Rattle.crossbeam_queue.specs.Passes.{IsPassOf, IsSamePass, ruled_capacity, view}
pub use Rattle.feed_core.specs.Feeds.{AreTaken, IsGathered, TakesNext, feed_of, lists_of, new_seat, remaining}
pub use Rattle.feed_core.specs.Knowledge.{alone, giver_of, grown, joined, nobody, taker_of}
pub use Rattle.feed_core.specs.Rule.{IsHandedOut}
pub use Rattle.feed_core.specs.Steps.{CanDeal, CanTake, FindsNone, TakesNumber, holds_all, leaves_none, puts_mark, puts_number, takes}
