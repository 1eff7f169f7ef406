-- The words that this crate's clauses cite, passed on from one place. Declares nothing.
pub use Rattle.zone_model.specs.Names.{Name}
pub use Rattle.zone_model.specs.Versions.{Version, Operation, DeleteName, DeleteSet, DeleteRecord, all_applied}
pub use Rattle.master_file.specs.Rows.{CanBeDumped}
pub use Rattle.zone_diff.specs.declared.Serial.{Serial}
pub use Rattle.zone_diff.specs.declared.Serial.TheVariants.{Keep, Ignore}
pub use Rattle.zone_diff.specs.Differences.{addition, entry_changes, record_change, set_additions, set_changes, set_deletions, whole_change, difference, made}
pub use Rattle.zone_diff.specs.declared.sets.Side.{Side}
pub use Rattle.zone_diff.specs.Merges.{records_ahead, reached, is_first, lacking_beside, Rises}
pub use Rattle.zone_diff.specs.Sinks.{Aim, Adds, IsShort, change_view}
pub use Rattle.zone_diff.specs.Cuts.{CutAt}
pub use Rattle.zone_diff.specs.Blocks.{blocks, block_limit, in_turn, StopsAt}
pub use Rattle.std.specs.List.{AllByRecursion}
pub use Rattle.zone_model.specs.Records.{Entry, IsEntry, IsItem}
pub use Rattle.zone_diff.specs.Walks.{changes_walked, sets_ahead, sets_reached, set_ahead}
pub use Rattle.zone_diff.specs.Differences.{unless_soa, soa_exchange, soa_additions, stays, entry_difference}
pub use Rattle.zone_diff.specs.Serials.{without_serial, renumbered, counts_as}
pub use Rattle.zone_diff.specs.NamesAhead.{Leaves, Stands, first_name, first_of, name_changes, pairs_ahead, passed_if}
pub use Rattle.rr_data.specs.ItemViews.{SaysEntry}
pub use Rattle.zone_model.specs.Records.{item_limit}
pub use Rattle.zone_diff.specs.declared.DiffStyle.{DiffStyle}
pub use Rattle.zone_diff.specs.Texts.{adding, class, closing, deleting, line, opening, record_words, text_in}
pub use Rattle.zone_diff.specs.Held.{Begun, Holds, HoldsFor, Opened}
pub use Rattle.zone_model.specs.NameText.{text_of}
pub use Rattle.zone_model.specs.DataText.{data_text, type_text}
pub use Rattle.zone_model.specs.Lines.{lines_of}
pub use Rattle.zone_model.specs.MasterFile.{zone_at}
pub use Rattle.job_model.specs.Jobs.{Script, list_of, script_from}
pub use Rattle.zone_diff.specs.Commands.{TakesCommands, committed}
