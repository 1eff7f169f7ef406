-- The words that this crate's clauses cite, passed on from one place. Declares nothing.
pub use Rattle.std.specs.List.{All, AllByRecursion, flat_map}
pub use Rattle.std.specs.List.Sorted.{IsStrictlySortedBy}
pub use Rattle.std.specs.Map.{keys_of}
pub use Rattle.zone_model.specs.Data.{data_of}
pub use Rattle.zone_model.specs.Dumps.{dump}
pub use Rattle.zone_model.specs.Lines.{lines_of}
pub use Rattle.zone_model.specs.MasterFile.{Reader, added, at_first, class_word, directive, entry_says, front_of, is_directive, is_time}
pub use Rattle.zone_model.specs.MasterFile.{last_line, line_of, minimum_of, name_word, one_argument, placed, record_says}
pub use Rattle.zone_model.specs.MasterFile.{set_origin_word, set_time_word, soa_count, time_for, time_word, type_word, zone_at, zone_from, zone_of}
pub use Rattle.zone_model.specs.Names.{Name, Name as Labels, name_cmp, same_name}
pub use Rattle.zone_model.specs.Records.{Entry as Records, IsItem, item_limit, rrset_of, with_rr}
pub use Rattle.zone_model.specs.Rows.{Directives, Row, line_text, row_text}
pub use Rattle.zone_model.specs.Versions.{Version, has_soa, is_lone, soa_type}
pub use Rattle.zone_model.specs.declared.Style.{Style}
pub use Rattle.zone_text.specs.Tokens.{IsPlaced, token_view}
pub use Rattle.zone_text.specs.Views.{Gives, Reads}
pub use Rattle.master_file.specs.Items.{GivesItem}
pub use Rattle.master_file.specs.Owned.{IsCounted}
pub use Rattle.master_file.specs.Owners.{AllHeld, CanBeItem, placed_at, version_of}
pub use Rattle.master_file.specs.Rows.{CanBeDumped, IsRecord, KnowsOwner, StandsUnder, read_on, row_added, written, zone_of_rows}
pub use Rattle.master_file.specs.Zones.{Checks, ReadsAll, ReadsNext, front_view, reader_view}
