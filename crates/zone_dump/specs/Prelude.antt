-- The words that this crate's clauses cite, passed on from one place. Declares nothing.
pub use Rattle.std.specs.Io.{StartsWith}
pub use Rattle.std.specs.List.{flat_map}
pub use Rattle.zone_model.specs.Dumps.{all_rows, dump, owner_lines, record_count, rows_at, soa_ttl, version_lines}
pub use Rattle.zone_model.specs.Keys.{most_item_octets}
pub use Rattle.zone_model.specs.Names.{Name as Labels}
pub use Rattle.zone_model.specs.Records.{Entry, IsItem, item_limit}
pub use Rattle.zone_model.specs.Rows.{line_text, row_text, rows_of}
pub use Rattle.zone_model.specs.Versions.{Version, owned}
pub use Rattle.outer_io.specs.Bytes.{Grows, GrowsByFront}
pub use Rattle.outer_io.specs.Faults.{Rose}
pub use Rattle.rr_data.specs.ItemViews.{SaysEntry}
pub use Rattle.zone_answer.specs.Standing.{Shows, ShowsSome}
pub use Rattle.zone_dump.specs.Files.{directives_in, file_text, head_text, lines_from}
pub use Rattle.zone_dump.specs.Walks.{Faces, FacesSome, GivesNext}
pub use Rattle.zone_dump.specs.Dumped.{CanReadItems, OfItem, PassesItem, PassesVersion, WritesVersion}
pub use Rattle.zone_dump.specs.Writing.{Passes, PassesOn, TellsFailed, TellsFault}
