-- The words that this crate's clauses cite, passed on from one place. Declares nothing.
pub use Rattle.zone_model.specs.Records.{Entry, IsEntry, has_record, item_limit, rrset_bytes, without_rr, without_set}
pub use Rattle.zone_model.specs.Transactions.{is_met_by}
pub use Rattle.zone_model.specs.Versions.{changed, holds, is_low_soa, loses_soa, owner_of, with_added, with_soa}
pub use Rattle.rr_data.specs.ItemViews.{SaysEntry}
pub use Rattle.zone_change.specs.Counts.{candidate, count_of, lone_by, records_in}
pub use Rattle.zone_change.specs.Views.{addition_view, operation_view, prerequisite_view}
