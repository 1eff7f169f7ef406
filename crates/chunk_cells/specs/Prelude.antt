-- The words that this crate's clauses cite, passed on from one place. Declares nothing.
pub use Rattle.std.specs.Int.{from_le_bytes, to_le_bytes, w64}
pub use Rattle.packed_node.specs.declared.Cell.{Cell}
pub use Rattle.trie_model.specs.Extents.{HasItem, IsBeside, ItemLies, LiesAt, content_cells, first_of, item_cell, link_cell, linked_cells, links}
pub use Rattle.trie_model.specs.Keys.{AreOctets, IsItem}
pub use Rattle.chunk_cells.specs.Chunks.{IsGiven}
pub use Rattle.chunk_cells.specs.Laying.{AreBlank, CanCopyAmong, CanLayAt, CanLayCells, CanReadCells, CanReadLast, extents_at, extents_in}
