-- The words that this crate's clauses cite, passed on from one place. Declares nothing.
pub use Rattle.std.specs.List.{AllByRecursion}
pub use Rattle.std.specs.Thread.{IsSync}
pub use Rattle.job_model.specs.Commands.{AskHeld, Hold, InTurn, MayCome, Release, held_after}
pub use Rattle.job_model.specs.Feeds.{passes_fed}
pub use Rattle.job_model.specs.Outcomes.{passes_for}
pub use Rattle.trie_model.specs.Shape.{cells as cells_in_trie}
pub use Rattle.shared_cells.specs.History.{IsPartOf}
pub use Rattle.shared_cells.specs.Views.{with_note}
pub use Rattle.qp_multi.specs.Openings.{Refuses, room_in}
pub use Rattle.qp_multi.specs.Prelude.{Accounts, AllSeen}
pub use Rattle.job_script.specs.Views.{job_view, worker_view, workers_view}
pub use Rattle.job_commands.specs.Prelude.{AllAsked, AllHeard, AreAll, AreHeard, AreNew, AreVersions, Begins, ComesTo, EndsAt, IsHeld, IsIndex, IsRun, IsOpenedWith, IsUnder}
pub use Rattle.job_commands.specs.Prelude.{IsZone, Learnt, Numbers, OpensAt, OpenedWith, Sits, StandsAs, Step, Version, command_view, versions_by}
pub use Rattle.job_commands.specs.Prelude.{entries_of_items, first_version, known_at, known_in, table_size}
pub use Rattle.job_threads.specs.Gatherings.{AreGathered, WorkerEndRan}
pub use Rattle.job_threads.specs.Passes.{AccountsBeside, AreAt, ArePlaced, CanRun, IsSecond, StandAt, holder_of, holds_one, worker_passes_of}
pub use Rattle.job_threads.specs.Ready.{AreBack, AreOfOne, AreReady, CanBeRun, CanRunOn, CanStart, IsBack, OpensForOne}
pub use Rattle.job_threads.specs.Snapshots.{AskedHeld, Held, Released}
pub use Rattle.job_threads.specs.Zones.{HeardOn, RanOn}
