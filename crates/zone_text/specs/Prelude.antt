-- The words that this crate's clauses cite, passed on from one place. Declares nothing.
pub use Rattle.std.specs.Char.{is_ascii_digit, is_ascii_hexdigit}
pub use Rattle.std.specs.List.{All, list_all, list_any, position, slice_range, slice_split}
pub use Rattle.std.specs.Option.{option_map}
pub use Rattle.std.specs.Str.Lines.{strip_carriage_return}
pub use Rattle.zone_model.specs.Addresses.{address6, by_double, double_at, group, groups_of, hex_from, last_group, last_groups_of, parts_of}
pub use Rattle.zone_model.specs.DataWords.{digit_value, groups, is_word, most_time, octets_from, seconds, time_of, unescaped}
pub use Rattle.zone_model.specs.Grammar.{stops_word}
pub use Rattle.zone_model.specs.Lines.{lines_of}
pub use Rattle.zone_model.specs.Texts.{address, address_part, at_most, number}
pub use Rattle.zone_model.specs.Tokens.{Quote, Word, apart, begins_blank, entry_from, fresh, in_quote}
pub use Rattle.zone_model.specs.Tokens.{in_word, line_end, line_tokens, parts_words, step, steps}
pub use Rattle.zone_text.specs.Escapes.{BehindSmall, Unescapes, behind_view, last_digit}
pub use Rattle.zone_text.specs.Parts.{parts_said}
pub use Rattle.zone_text.specs.Places.{FirstLine, IsStretch, first_line}
pub use Rattle.zone_text.specs.Pushing.{PushesAll}
pub use Rattle.zone_text.specs.Spelling.{EntrySays, IsEntry, IsLine, LineSays}
pub use Rattle.zone_text.specs.Tokens.{IsPlaced}
pub use Rattle.zone_text.specs.Views.{Gives, HasScanned, IsInside, IsNextStep, MayEnd, Reads, ReadsLine, ended, lexed_view, scan_view}
pub use Rattle.zone_text.specs.declared.lexer.Begun.{Begun}
