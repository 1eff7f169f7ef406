-- The words that this crate's clauses cite, passed on from one place. Declares nothing.
pub use Rattle.std.specs.List.{All, list_any}
pub use Rattle.zone_model.specs.Lines.{lines_of}
pub use Rattle.zone_model.specs.Names.{same_name}
pub use Rattle.zone_text.specs.Places.{first_line}
pub use Rattle.zone_text.specs.Tokens.{IsPlaced, token_view}
pub use Rattle.zone_text.specs.Views.{Reads}
pub use Rattle.zone_list.specs.Lists.{Part, begins_part, cut_from, head_says, is_head, new_origin, origin_word, part_says, zones_of}
pub use Rattle.zone_list.specs.Parts.{AreListed, AreParts}
pub use Rattle.zone_list.specs.Views.{IsAtPart, IsFront, IsTold, ReadsPart}
