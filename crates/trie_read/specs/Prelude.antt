-- The words that this crate's clauses cite, passed on from one place. Declares nothing.
pub use Rattle.std.specs.Int.{bit_at}
pub use Rattle.zone_model.specs.Keys.{IsKey, Leads, key_of}
pub use Rattle.zone_model.specs.Names.{IsName}
pub use Rattle.shift_key.specs.Differences.{IsDifference}
pub use Rattle.packed_node.specs.declared.Cell.{Cell}
pub use Rattle.trie_model.specs.Extents.{Extents}
pub use Rattle.trie_model.specs.Keys.{Entry, at}
pub use Rattle.trie_model.specs.Memory.{IsTrieAt, Stands, top_cell}
pub use Rattle.trie_model.specs.Order.{EndsAt, IsPredecessor, chain, chain_labels, labels_in}
pub use Rattle.trie_model.specs.Shape.{keys_of, nodes as nodes_of_keys, nodes_of}
pub use Rattle.trie_model.specs.Trees.{IsTree, Tree, entries_of}
pub use Rattle.trie_model.specs.Trees.Tree.{leaf as leaf_tree}
pub use Rattle.trie_read.specs.Above.{AreAncestors, HasEnding, IsAtOrAbove, Passes, labels_of_met}
pub use Rattle.trie_read.specs.Finds.{IsKind, kind_of}
pub use Rattle.trie_read.specs.Readings.{AtSplit, MeetsNearest, Whichever}
pub use Rattle.trie_read.specs.Reads.{EachTells, IsBlank, FindsLeaf, Gives, IsLeafOf, IsNamed, IsTop, LeadsKey}
pub use Rattle.trie_read.specs.Walks.{AnyStep, Approached, CanMeet, CutAt, FacesFirst, FacesNext, Guided, HangsAtLevel, HangsBy, HasNode, HasPassedLast, InVersion, IsPath, IsStart, LeadsTo}
pub use Rattle.trie_read.specs.Walks.{LeadsToCell, LeadsToFirst, LeadsToLast, Meets, PassesLast, StandsBetween, StandsSomewhere, StepsBack, StepsNext, TurnsBack, TurnsNext, Wherever, step_of}
pub use Rattle.trie_read.specs.declared.ancestors.Ancestor.{Ancestor}
pub use Rattle.trie_read.specs.declared.iter.Cursor.TheVariants.{Facing, Past}
