-- The words that this crate's clauses cite, passed on from one place. Declares nothing.
pub use Rattle.zone_model.specs.Keys.{IsFirstDifference, IsKey, Leads, key_cmp, key_of, label_positions, most_item_octets, octet_positions}
pub use Rattle.zone_model.specs.Names.{BeginsWith, IsFolded, IsLabel, IsName, Name as Labels, name_cmp, wire}
pub use Rattle.dns_name.specs.Spelling.{IsSpelled, Spells}
pub use Rattle.shift_key.specs.Differences.{Agrees, Compares, IsDifference}
pub use Rattle.shift_key.specs.Laid.{HasRoom, IsFront}
pub use Rattle.shift_key.specs.Partings.{HasName, IsParting, LabelsPart, NamesPart, OctetsPart, SplitsOff}
pub use Rattle.shift_key.specs.Shape.{KeyShape}
