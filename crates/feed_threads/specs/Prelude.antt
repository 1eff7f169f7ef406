-- The words that this crate's clauses cite, passed on from one place. Declares nothing.
pub use Rattle.std.specs.List.{AllByRecursion}
pub use Rattle.std.specs.List.Sorted.{IsStrictlyIncreasing}
pub use Rattle.std.specs.Thread.{IsSync}
pub use Rattle.job_model.specs.Feeds.{passes_fed}
pub use Rattle.feed_core.specs.Feeds.{new_seat}
pub use Rattle.job_commands.specs.Prelude.{AllAsked, AreAll, AreNew, IsHeard, IsIndex, IsNew, IsOpenedWith, IsZone, Learnt, NeedsNoSnapshot, OpensAt}
pub use Rattle.job_commands.specs.Prelude.{OpenedWith, StandsAs, Version, command_view, entries_of_items, known_at, known_in, table_size}
pub use Rattle.feed_threads.specs.Feeds.{AllFedHeard, AreInOrder, AreTaken, FedHeard, IsBy, IsFedRun, IsFree, IsServed}
pub use Rattle.feed_threads.specs.Feeds.{done_seat, numbered, numbers_served, seats_served, served_by}
pub use Rattle.feed_threads.specs.Gatherings.{AreGathered, WorkerEndRan}
pub use Rattle.feed_threads.specs.Zones.{FedHeardOn, FedRanOn}
pub use Rattle.feed_threads.specs.Ready.{AreBack, AreFed, CanBePlaced, CanFeed, CanFeedOn, CanServe, IsBack, IsReady, PassesAreBack}
