-- The words that this crate's clauses cite, passed on from one place. Declares nothing.
pub use Rattle.zone_model.specs.Keys.{key_of, most_item_octets}
pub use Rattle.zone_model.specs.Records.{Entry as Records, IsItem, item_limit}
pub use Rattle.zone_model.specs.Versions.{owned}
pub use Rattle.rr_data.specs.ItemViews.{SaysEntry}
pub use Rattle.zone_change.specs.Counts.{candidate}
pub use Rattle.zone_change.specs.Views.{operation_view, prerequisite_view}
pub use Rattle.qp_multi.specs.Calls.{IsOfSame}
pub use Rattle.qp_multi.specs.WorkingVersions.{Between, IsSame}
pub use Rattle.zone_edit.specs.Asks.{CanExchange, CanReadOwned, CanStore, TellsWant}
pub use Rattle.zone_edit.specs.Blocks.{Edited, EditedInOrder, EditedOnce, Meets, MeetsAll}
pub use Rattle.zone_edit.specs.Stores.{Edits, Owns, Reads, Stores, WorksOnSome, done_by}
