-- The words that this crate's clauses cite, passed on from one place. Declares nothing.
pub use Rattle.std.specs.Borrow.{sem}
pub use Rattle.std.specs.List.{AllByRecursion, IsDistinct}
pub use Rattle.zone_model.specs.Names.{IsName, Name as Labels, name_cmp, same_name}
pub use Rattle.dns_name.specs.Spelling.{IsSpelled, Spells}
pub use Rattle.trie_model.specs.Keys.{Entry, Rises}
pub use Rattle.trie_read.specs.Readings.{IsHeld}
pub use Rattle.shared_cells.specs.declared.view.TableSize.{TableSize}
pub use Rattle.trie_write.specs.Entries.{entries_of_items, entry_of}
pub use Rattle.qp_multi.specs.Openings.{Refuses}
pub use Rattle.qp_multi.specs.Passes.{IsHere, Known, Pinned, known_at, version_seen}
pub use Rattle.zone_table.specs.Changes.{Attaches, Detaches, IsReceipt}
pub use Rattle.zone_table.specs.Handings.{AreAssembled, AreMade, HaveOpened}
pub use Rattle.zone_table.specs.Endings.{AreAdded, AreEnded, AreSplit, CanEnd, EachEnds, IsEnd}
pub use Rattle.zone_table.specs.Lends.{lends_zone}
pub use Rattle.zone_table.specs.Locations.{IsZoneOf}
pub use Rattle.zone_table.specs.Notes.{HasLearnt, IsNoteOf, KnowsSame, LearntAt, TellEach, Tells}
pub use Rattle.zone_table.specs.Openings.{AllFit, AreBlanks, AreOpened, CanBegin, CanOpen, IsBegun, IsTableBlank, OpensZones, Place, RefusesZones, ZonesDiffer}
pub use Rattle.zone_table.specs.Openings.{entries_in, origins_of, places_of, sizes_of}
pub use Rattle.zone_table.specs.Passes.{HasLooked, HasZone, IsPassOf, StandAt, table_known, zone_known}
pub use Rattle.zone_table.specs.Remembered.{AreAttached, IsAt}
pub use Rattle.zone_table.specs.Tables.{AreOrigins, IsAmong, IsAttached, IsTable, entry_for}
