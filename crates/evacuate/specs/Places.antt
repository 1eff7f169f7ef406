-- Where the twigs of a branch, or the cells of an item, lie; and a tree in which they lie elsewhere.
use Rattle.std.specs.Prelude.{◌≡◌, ℕ, List, count_ones, nat_lt, if◌then◌else◌}
use Rattle.packed_node.specs.declared.Cell.{Cell}
use Rattle.packed_node.specs.declared.Node.{Node}
use Rattle.packed_node.specs.declared.Node.TheVariants as node
use Rattle.trie_model.specs.Extents.{Extents, content_cells, linked_cells}
use Rattle.trie_model.specs.Extents.Extents.{last, linked}
use Rattle.trie_model.specs.Keys.{Entry}
use Rattle.trie_model.specs.Memory.{node_of}
use Rattle.trie_model.specs.Trees.{Tree, entries_of, IsTree}
use Rattle.trie_model.specs.Trees.Tree.{leaf, branch}
use Rattle.chunk_usage.specs.Ledger.{Ledger}
use Rattle.chunk_usage.specs.Rooms.{reserve_account_of}
use Rattle.trie_space.specs.Rooted.{Rooted, no_spare}
use Rattle.trie_space.specs.Ways.{Fork, plug, end_at}

-- the first of the cells that hang on a node, and how many they are: its twigs, or those of its item's first extent
abbrev pub first_of : Node → ℕ
first_of (node.Leaf l) = l.at
first_of (node.Branch b) = b.twigs

abbrev pub first_width : ℕ → ℕ
first_width n = if nat_lt 4096 n then linked_cells else content_cells n

abbrev pub width_of : Node → ℕ
width_of (node.Leaf l) = first_width (l.len)
width_of (node.Branch b) = count_ones b.bitmap

-- the node, and the tree, with these cells elsewhere
abbrev pub put_at : Node → ℕ → Node
put_at (node.Leaf l) to = node.Leaf (record l { at = to })
put_at (node.Branch b) to = node.Branch (record b { twigs = to })

abbrev pub put_first : Extents → ℕ → Extents
put_first (last r) to = last to
put_first (linked r x) to = linked to x

abbrev pub moved : Tree → ℕ → Tree
moved (leaf e x) to = leaf e (put_first x to)
moved (branch o first below) to = branch o to below

-- a trie of these entries stands at a root, and these cells are what counts
pub record Stood {S : Type 0} (has : S → ℕ → Cell → Type 0) (s : S) (l : Ledger) (r : ℕ) (es : List Entry) (t : Tree) : Type 0 where
  pub tree : IsTree 0 t
  pub rooted : Rooted has reserve_account_of s l no_spare r t
  pub holds : entries_of t ≡ es

-- in it a tree hangs at the end of a way, on the cell at a place
pub record Hung {S : Type 0} (has : S → ℕ → Cell → Type 0) (s : S) (l : Ledger) (r at : ℕ) (es : List Entry) (way : List Fork) (t : Tree) : Type 0 where
  pub stood : Stood has s l r es (plug way t)
  pub at_is : at ≡ end_at r way

-- some trie stands at a root; in some trie, some tree with this node hangs on the cell
pub record IsStood {S : Type 0} (has : S → ℕ → Cell → Type 0) (s : S) (l : Ledger) (r : ℕ) : Type 0 where
  pub es : List Entry
  pub t : Tree
  pub stood : Stood has s l r es t

pub record IsHung {S : Type 0} (has : S → ℕ → Cell → Type 0) (s : S) (l : Ledger) (at : ℕ) (n : Node) : Type 0 where
  pub r : ℕ
  pub es : List Entry
  pub way : List Fork
  pub t : Tree
  pub hung : Hung has s l r at es way t
  pub is : n ≡ node_of t

-- however a tree with this node hung on the cell, it still does, and what hangs on the node is at this place
abbrev pub StillHangs : {S : Type 0} → (S → ℕ → Cell → Type 0) → ℕ → Node → S → Ledger → S → Ledger → ℕ → Type 0
StillHangs has at n s l s_new l_new to = (r : ℕ) (es : List Entry) (way : List Fork) (t : Tree)
    → Hung has s l r at es way t → n ≡ node_of t → Hung has s_new l_new r at es way (moved t to)

-- however a tree with this node hung on the cell, a trie of the same entries still stands at the root above it
abbrev pub StandsAboveNode : {S : Type 0} → (S → ℕ → Cell → Type 0) → ℕ → Node → S → Ledger → S → Ledger → Type 0
StandsAboveNode has at n s l s_new l_new = (r : ℕ) (es : List Entry) (way : List Fork) (t : Tree)
    → Hung has s l r at es way t → n ≡ node_of t → (u : Tree) × Stood has s_new l_new r es u

-- in some trie of these entries, some tree with this node hangs on the cell
pub record HangsIn {S : Type 0} (has : S → ℕ → Cell → Type 0) (s : S) (l : Ledger) (r at : ℕ) (es : List Entry) (n : Node) : Type 0 where
  pub way : List Fork
  pub t : Tree
  pub hung : Hung has s l r at es way t
  pub is : n ≡ node_of t

-- however a trie stands at the root, some tree with this node hangs in it on the cell
abbrev pub Hangs : {S : Type 0} → (S → ℕ → Cell → Type 0) → S → Ledger → ℕ → ℕ → Node → Type 0
Hangs has s l r at n = (es : List Entry) (t : Tree) → Stood has s l r es t → HangsIn has s l r at es n
