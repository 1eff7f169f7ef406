-- The words that this crate's clauses cite, passed on from one place. Declares nothing.
pub use Rattle.std.specs.Cmp.{IsTotalOrder, partial_equiv_from_equiv, partial_order_from_own_ties}
pub use Rattle.std.specs.Cmp.Rules.{comparing}
pub use Rattle.std.specs.Io.{StartsWith}
pub use Rattle.std.specs.List.{AllByRecursion, flat_map, list_all}
pub use Rattle.std.specs.Option.{option_copied}
pub use Rattle.std.specs.Ordering.{as_partial_cmp, ordering_then}
pub use Rattle.std.specs.declared.cmp.Ordering.{Ordering}
pub use Rattle.zone_model.specs.Escapes.{escape_len, escaped_octet}
pub use Rattle.zone_model.specs.NameOrder.{name_cmp_total, same_name_equiv}
pub use Rattle.zone_model.specs.NameText.{completed, front_text, label_text, labels_of, name_of, name_text, octet_text, relative_text, text_of}
pub use Rattle.zone_model.specs.Names.{BeginsWith, IsFolded, IsLabel, IsName, Name as Labels, ancestor, is_under, name_cmp, same_name, star_under, wire}
pub use Rattle.dns_name.specs.Blank.{no_octets}
pub use Rattle.dns_name.specs.Pieces.{IsPieceAt}
pub use Rattle.dns_name.specs.Plain.{is_plain}
pub use Rattle.dns_name.specs.Reading.{IsLaid, Measures}
pub use Rattle.dns_name.specs.SortKeys.{KeyBelow, PushesBelow, escaped, label_key, weight}
pub use Rattle.dns_name.specs.Spelling.{BeginsWithLabel, HasFront, HasLabelOf, HasLabels, IsFirst, IsNameSpelled, IsSpelled, Spells, SpellsInFront}
