-- The words that this crate's clauses cite, passed on from one place. Declares nothing.
pub use Rattle.std.specs.Int.{bit_at}
pub use Rattle.zone_model.specs.Keys.{Leads}
pub use Rattle.packed_node.specs.Nodes.{IsBranch, SaysNode, branch_cell}
pub use Rattle.packed_node.specs.declared.Cell.{Cell}
pub use Rattle.trie_model.specs.Changes.{Deep, Inserted}
pub use Rattle.trie_model.specs.Extents.{AreExtents, Extents, cells_in, content_cells, links, weigh_extents}
pub use Rattle.trie_model.specs.Keys.{Entry, InList, IsEntry, IsKey, Rises, at}
pub use Rattle.trie_model.specs.Memory.{Stands, top_cell}
pub use Rattle.trie_model.specs.Order.{IsThere}
pub use Rattle.trie_model.specs.Reach.{in_chunk}
pub use Rattle.trie_model.specs.Shape.{cells as cells_of}
pub use Rattle.trie_model.specs.Trees.{IsTree, Tree, entries_of}
pub use Rattle.trie_model.specs.Trees.Tree.{leaf}
pub use Rattle.chunk_cells.specs.Laying.{extents_at, extents_in}
pub use Rattle.trie_read.specs.Reads.{EachTells, IsTop}
pub use Rattle.chunk_usage.specs.Rooms.{Account, Handed}
pub use Rattle.trie_space.specs.Spaces.{IsWritable, MayWrite, Ready, Wrote}
pub use Rattle.trie_space.specs.Standing.{HasTrie}
pub use Rattle.trie_space.specs.Ways.{Fork, IsWay, NotBefore, plug}
pub use Rattle.trie_write.specs.Asks.{HasKey, KeyIsThere}
pub use Rattle.trie_write.specs.Builds.{Built, BuiltTwig, CanBuild, CanBuildBranch, CanBuildFront, IsBranchBuilt, IsFront, Stopped}
pub use Rattle.trie_write.specs.Changes.{CanChange, CanPut, ChangesTree, ChangesTrie, MayAsk, StaysAsItWas}
pub use Rattle.trie_write.specs.Deletions.{CanTakeLeaf, Deleted, DropAsked, DropAsks, TakesLeaf}
pub use Rattle.trie_write.specs.Descents.{HasWay, IsDescent, IsLastDescent}
pub use Rattle.trie_write.specs.Entries.{entries_of_items, entry_of}
pub use Rattle.trie_write.specs.Exchanges.{CanReplace, Exchanged, IsOtherLeaf}
pub use Rattle.trie_write.specs.Inserts.{AddsLeaf, CanAddLeaf, CanInsert, CanJoin, CanPair, IsLeafAdded, IsNewLeaf, JoinAsks, LacksKey, LeafAsks, MayAskForLeaf, MayAskForName, PairAsks, WithAsks}
pub use Rattle.trie_write.specs.Laid.{CanLay, CanPlace, HandedItem, IsLaidAnew, IsNoItem, extent_sizes}
pub use Rattle.trie_write.specs.Mutable.{CanMoveTwigs, CanOpenAnew, CanOpenBelow, CopiesWay, IsCopied, IsLastMutable, IsSlot, MayAskAlong, MayAskBelow, MayAskToOpen, MovesTwigs, OpensWay, SlotAsked, SlotAsks, WayAsked, WayAsks}
pub use Rattle.trie_write.specs.Nearness.{Closest, Differs}
pub use Rattle.trie_write.specs.Paths.{delete_asks, insert_asks, replace_asks, twigs_on_path}
pub use Rattle.trie_write.specs.Points.{Ahead, Before, Front}
pub use Rattle.trie_write.specs.Puts.{GivenBack, IsPut, MayAskToPut, PutAsked, PutAsks, PutsChange, item_span, span, taken}
pub use Rattle.trie_write.specs.Steps.{CanAsk, CanCopyApart, IsCopiedApart, IsRoom, LacksRoom, OnlyAdds, Releases, TakesCells}
pub use Rattle.trie_write.specs.Tops.{IsBranchTop, IsLeafTop}
