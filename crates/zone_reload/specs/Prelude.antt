-- The words that this crate's clauses cite, passed on from one place. Declares nothing.
pub use Rattle.zone_model.specs.Keys.{most_item_octets}
pub use Rattle.zone_model.specs.Versions.{Version}
pub use Rattle.zone_answer.specs.Standing.{Shows, ShowsSome}
pub use Rattle.zone_change.specs.Views.{operation_view}
pub use Rattle.zone_diff.specs.Differences.{difference}
pub use Rattle.zone_diff.specs.Sinks.{IsShort, change_view}
pub use Rattle.zone_dump.specs.Walks.{Faces, FacesSome}
pub use Rattle.zone_edit.specs.Prelude.{IsOfSame, WorksOnSome}
pub use Rattle.zone_reload.specs.Reloads.{ReplacesAll}
pub use Rattle.zone_reload.specs.Shown.{ShowsAll, ShowsLeft}
