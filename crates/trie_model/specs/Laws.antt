-- What follows from the definitions, whatever the trie.
use Rattle.std.specs.Prelude.{◌≡◌, ◌+◌, ◌≤◌, ◌^◌, ◌↔◌, ℕ, Bool, true, List, length, sum_by}
use Rattle.std.specs.List.{list_all}
use Rattle.packed_node.specs.declared.Cell.{Cell}
use Rattle.std.specs.declared.cmp.Ordering.TheVariants.{Less as Less_ordering}
use Rattle.zone_model.specs.Names.{Name, IsName, is_under, name_cmp}
use Rattle.zone_model.specs.Keys.{key_of}
use Rattle.trie_model.specs.Keys.{at, IsKey, Entry, Rises, Less}
use Rattle.trie_model.specs.Order.{begins, labels_in}
use Rattle.trie_model.specs.Changes.{Inserted}
use Rattle.trie_model.specs.Trees.{Tree, entries_of, IsTree}
use Rattle.trie_model.specs.Reach.{reach, reach_below, live_in, in_chunk, weigh_tree, WithinTree}
use Rattle.trie_model.specs.Memory.{listed, IsTrieAt}
use Rattle.trie_model.specs.Shape.{nodes, keys_of, cells, nodes_of}

-- keys that read alike are alike
abbrev pub KeysAreRead : Type 0
KeysAreRead = (a b : List ℕ) → IsKey a → IsKey b → ((i : ℕ) → at a i ≡ at b i) → a ≡ b

-- the leaves stand in the order of their keys
abbrev pub LeavesRise : Type 0
LeavesRise = (low : ℕ) (t : Tree) → IsTree low t → Rises (entries_of t)

-- an entry goes into a list at one place alone
abbrev pub OnePlace : Type 0
OnePlace = (e : Entry) (old new other : List Entry) → Inserted e old new → Inserted e old other → new ≡ other

-- a tree has as many nodes as its keys say, and reaches as many cells as its entries say
abbrev pub NodesAreOfTheKeys : Type 0
NodesAreOfTheKeys = (low : ℕ) (t : Tree) → IsTree low t → nodes_of t ≡ nodes (keys_of (entries_of t))

abbrev pub CellsAreOfTheEntries : Type 0
CellsAreOfTheEntries = (low r : ℕ) (t : Tree) → IsTree low t → length (reach r t) ≡ cells (entries_of t)

-- the sum of what the reached references weigh, and a test that each passes
abbrev pub ReachIsWeighed : Type 0
ReachIsWeighed = (weight : ℕ → ℕ) (t : Tree) → weigh_tree weight t ≡ sum_by weight (reach_below t)

abbrev pub LiveIsWeighed : Type 0
LiveIsWeighed = (chunk r : ℕ) (t : Tree) → live_in chunk r t ≡ in_chunk chunk r + weigh_tree (in_chunk chunk) t

abbrev pub ReachIsTested : Type 0
ReachIsTested = (test : ℕ → Bool) (t : Tree) → WithinTree test t ↔ (list_all test (reach_below t) ≡ true)

-- a trie that stands reaches no more cells than there are references
abbrev pub CellsAreFew : Type 0
CellsAreFew = (memory : List (ℕ × Cell)) (r : ℕ) (t : Tree) (version : List Entry) → IsTrieAt (listed memory) r t version → length (reach r t) ≤ 2 ^ 22

-- a key begins another exactly where its name is at or above the other's
abbrev pub BeginningsAreAbove : Type 0
BeginningsAreAbove = (top name : Name) → IsName top → IsName name → (begins (key_of top) (key_of name) ≡ true) ↔ (is_under name top ≡ true)

-- a key has an end for each label of its name
abbrev pub LabelsAreEnded : Type 0
LabelsAreEnded = (name : Name) → IsName name → labels_in (key_of name) ≡ length name

-- a key is before another exactly where its name is, in canonical order
abbrev pub KeysAreCanonical : Type 0
KeysAreCanonical = (a b : Name) → IsName a → IsName b → Less (key_of a) (key_of b) ↔ (name_cmp a b ≡ Less_ordering)
