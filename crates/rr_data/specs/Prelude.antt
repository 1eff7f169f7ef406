-- The words that this crate's clauses cite, passed on from one place. Declares nothing.
pub use Rattle.std.specs.Char.{is_ascii_hexdigit}
pub use Rattle.std.specs.Int.{from_be_bytes, to_be_bytes, w16, w32}
pub use Rattle.std.specs.Io.{StartsWith}
pub use Rattle.std.specs.List.{All, flat_map, list_all}
pub use Rattle.std.specs.Option.{option_copied, option_map}
pub use Rattle.zone_model.specs.Data.{data_of, field_octets, is_generic, of_form, read_digits, read_fields}
pub use Rattle.zone_model.specs.Data.{read_generic, read_strings, read_typed, string_octets, word_octets}
pub use Rattle.zone_model.specs.DataForms.{field_rest, fields_fit, form_fits, split_time, strings_fit}
pub use Rattle.zone_model.specs.DataText.{address_text, data_text, data_text_in, digit_at, field_text, fields_text, generic_text, group_text}
pub use Rattle.zone_model.specs.DataText.{groups_text, hex_digit, hex_text, quoted_text, string_octet, string_text, strings_text, type_text, typed_text}
pub use Rattle.zone_model.specs.DataWords.{Slash, data_type, octets_from, paired, time_of, type_named, unescaped}
pub use Rattle.zone_model.specs.Escapes.{escape_len, escaped_octet}
pub use Rattle.zone_model.specs.Grammar.{Spells, Token}
pub use Rattle.zone_model.specs.Items.{entry_of, is_above, item_of, split_number, split_record, split_records, split_set, split_sets, split_short, type_above}
pub use Rattle.zone_model.specs.Names.{Name}
pub use Rattle.zone_model.specs.Records.{Entry, IsEntry, IsItem, RisingOctets, RisingSets, Rrset, fresh, has_record, item, item_limit}
pub use Rattle.zone_model.specs.Records.{record_bytes, rrset_bytes, rrset_of, with_record, with_rr, without_record, without_rr, without_set}
pub use Rattle.zone_model.specs.Rows.{directives_text, head_text, line_text, origin_of, owner_field, ttl_field}
pub use Rattle.zone_model.specs.Splits.{split_name, split_octets}
pub use Rattle.zone_model.specs.Texts.{number}
pub use Rattle.zone_model.specs.Transactions.{has_some}
pub use Rattle.zone_model.specs.Types.{Field, NameField, ShortField, TimeField, form_of, type_numbered, type_spelled}
pub use Rattle.zone_text.specs.Pushing.{PushesAll}
pub use Rattle.zone_text.specs.Tokens.{IsPlaced, token_view}
pub use Rattle.rr_data.specs.Changes.{TellsChange}
pub use Rattle.rr_data.specs.Fields.{field_view, form_view, type_view}
pub use Rattle.rr_data.specs.ItemViews.{BeginsWithRecord, BeginsWithRecords, BeginsWithSet, SaysEntry}
pub use Rattle.rr_data.specs.Items.{Decodes, part_view}
pub use Rattle.rr_data.specs.Places.{AreLower, MissingAt, StandsAt}
pub use Rattle.rr_data.specs.Printing.{PrintsField, PrintsFields, ReadsUnder}
pub use Rattle.rr_data.specs.Pushing.{Pushes, ReadsAgain, ReadsData, is_data}
