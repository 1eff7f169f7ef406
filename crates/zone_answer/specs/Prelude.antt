-- The words that this crate's clauses cite, passed on from one place. Declares nothing.
pub use Rattle.std.specs.List.{All, AllByRecursion, find}
pub use Rattle.std.specs.Map.{keys_of}
pub use Rattle.std.specs.Option.{option_map}
pub use Rattle.zone_model.specs.Keys.{key_of, most_item_octets}
pub use Rattle.zone_model.specs.MasterFile.{minimum_of}
pub use Rattle.zone_model.specs.Names.{Name as Labels, ancestor, is_under, name_cmp}
pub use Rattle.zone_model.specs.Records.{Entry as Records, RisingOctets, rrset_of}
pub use Rattle.zone_model.specs.Rows.{Row, rows_of}
pub use Rattle.zone_model.specs.Splits.{split_name}
pub use Rattle.zone_model.specs.Versions.{Version, cname_type, exists, owned}
pub use Rattle.rr_data.specs.ItemViews.{SaysEntry}
pub use Rattle.trie_model.specs.Keys.{Entry}
pub use Rattle.trie_read.specs.Readings.{IsStanding}
pub use Rattle.trie_read.specs.declared.ancestors.Ancestor.{Ancestor}
pub use Rattle.zone_answer.specs.Answers.{Ends, LeadsTo, alias_in, answer, behind, by_alias, followed}
pub use Rattle.zone_answer.specs.Answers.{going_on, is_cut, node, ns_type, set_rows, step, target_of}
pub use Rattle.zone_answer.specs.Neighbours.{Names}
pub use Rattle.zone_answer.specs.Parts.{Adds, Gives, GivesAtOnce, IsCutOf, IsCutOver, IsGiven, IsHeld, IsNodeOf, IsRead, NoneOver, delegated, held_as, held_at, own_node}
pub use Rattle.zone_answer.specs.Responses.{addresses, addresses_for, by_kind, name_from, negative, negative_soa, octets_before, of_type, once, owned_rows, respond, with_lesser_time, with_owner}
pub use Rattle.zone_answer.specs.Sections.{AreCounted, Ends as EndsWith, EndsWithSet, GoesTo, IsResponded, addresses_of}
pub use Rattle.zone_answer.specs.Standing.{CanFetch, CanGive, CanLookAbove, IsApart, IsStorable, Shows, ShowsAbove, ShowsSome, StandsOn, trie_entry}
