-- The words that this crate's clauses cite, passed on from one place. Declares nothing.
pub use Rattle.packed_node.specs.declared.Branch.{Branch}
pub use Rattle.packed_node.specs.declared.Cell.{Cell}
pub use Rattle.packed_node.specs.declared.Node.TheVariants.{Branch as branch_node, Leaf as leaf_node}
pub use Rattle.trie_model.specs.Capacity.{filled_cells}
pub use Rattle.trie_model.specs.Extents.{Extents, HasItem, IsRow, LiesAt}
pub use Rattle.trie_model.specs.Keys.{Entry}
pub use Rattle.trie_model.specs.Memory.{node_of, top_cell}
pub use Rattle.trie_model.specs.Shape.{cells as cells_of}
pub use Rattle.trie_model.specs.Trees.{Tree}
pub use Rattle.trie_read.specs.Reads.{IsTop}
pub use Rattle.chunk_usage.specs.Counting.{is_sparse, is_unmixed}
pub use Rattle.chunk_usage.specs.Handing.{allocated, consumed}
pub use Rattle.chunk_usage.specs.Ledger.{free_count, is_mutable, is_used}
pub use Rattle.chunk_usage.specs.Rooms.{Grows, account_of, reserve_account_of}
pub use Rattle.trie_space.specs.Spaces.{IsWritable, Ready}
pub use Rattle.trie_space.specs.Standing.{HasTrie}
pub use Rattle.trie_space.specs.Ways.{NotBefore}
pub use Rattle.evacuate.specs.Chains.{GoesSparse, IsBehind}
pub use Rattle.evacuate.specs.Evacuations.{CarriesTrie, EmptiesChunks, Ended, HasSparse, IsCleared, ListsEnd}
pub use Rattle.evacuate.specs.Fillings.{Fewer, IsUsedUp, begun, filled_on, is_filled_on}
pub use Rattle.evacuate.specs.Places.{Hangs, IsStood, first_of, first_width, put_at, width_of}
pub use Rattle.evacuate.specs.Moving.{AsksRoom, CanCopy, CanMove, CanMoveBehind, ExtentMoved, FirstLies, IsCopied, IsLength, IsRoom, LeavesRest, MovesCells, NextLies, NodeMoved, RearrangedItem, RearrangedNode, RootMoved, TakesCells, Unmoved}
pub use Rattle.evacuate.specs.Rearranging.{CanBegin, CanRearrange, CanWalkOn, Emptied, OnWay, Rearranged, RootCopied, StopsShort}
pub use Rattle.evacuate.specs.Sparse.{TellsSparse}
pub use Rattle.evacuate.specs.Stacks.{Finds, Found, FoundBelow, IsDue, MayPass, NoneBelow, PassedTo, SpotReached, StackKept}
