-- The words that this crate's clauses cite, passed on from one place. Declares nothing.
pub use Rattle.zone_model.specs.Keys.{Leads, most_item_octets}
pub use Rattle.trie_model.specs.Extents.Extents.{last}
pub use Rattle.trie_model.specs.Keys.{Less, Rises}
pub use Rattle.trie_model.specs.Memory.{Stands}
pub use Rattle.chunk_cells.specs.Laying.{extents_in}
pub use Rattle.trie_read.specs.Reads.{EachTells}
pub use Rattle.trie_write.specs.Entries.{entries_of_items}
pub use Rattle.trie_tests.specs.Example.{two_names}
pub use Rattle.trie_tests.specs.Tries.{IsTrie}
