-- The words that this crate's clauses cite, passed on from one place. Declares nothing.
pub use Rattle.std.specs.Thread.{IsSync}
pub use Rattle.zone_model.specs.MasterFile.{Zone}
pub use Rattle.zones_model.specs.Commands.{origins_of}
pub use Rattle.zones_model.specs.Outcomes.{passes_for}
pub use Rattle.zones_script.specs.Views.{command_view, worker_view}
pub use Rattle.zones_report.specs.Telling.{last_of}
pub use Rattle.zone_table.specs.Prelude.{AllByRecursion, IsDistinct, IsPassOf, entries_in, places_of, same_name, sizes_of, table_known, zone_known}
pub use Rattle.job_commands.specs.Prelude.{AreHeard, IsZone, Learnt, asked_view, known_at}
pub use Rattle.zones_threads.specs.Calls.{AllHeard}
pub use Rattle.zones_threads.specs.Changes.{cause_told, version_told}
pub use Rattle.zones_threads.specs.Closings.{table_views, zone_views}
pub use Rattle.zones_threads.specs.Endings.{EndsTable, EndsZone}
pub use Rattle.zones_threads.specs.Gatherings.{AreGathered, CanStart, HasWorked, MayRun, MayWork, StandsInFront}
pub use Rattle.zones_threads.specs.Openings.{CanRunZones, HeardOn, StandFor, ZonesRanOn}
pub use Rattle.zones_threads.specs.Runs.{IsZonesRun, TableBegins, ZoneBegins}
pub use Rattle.zones_threads.specs.Sites.{IsSaid, IsSite, Opens, Site}
pub use Rattle.zones_threads.specs.Steps.{Goes}
pub use Rattle.zones_threads.specs.Views.{workers_view}
pub use Rattle.zones_threads.specs.Visits.{Counted}
pub use Rattle.zones_threads.specs.Works.{AreApart}
