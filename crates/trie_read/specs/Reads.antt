-- What a search goes by, and what it gives.
use Rattle.std.specs.Prelude.{◌≡◌, ℕ, ◌<◌, List, Option, Some, None}
use Rattle.packed_node.specs.declared.Cell.{Cell}
use Rattle.packed_node.specs.declared.Leaf.{Leaf}
use Rattle.zone_model.specs.Keys.{Leads}
use Rattle.trie_model.specs.Keys.{Entry, IsEntry, InList}
use Rattle.trie_model.specs.Extents.{HasItem}
use Rattle.trie_model.specs.Trees.{Tree, IsTree}
use Rattle.trie_model.specs.Memory.{Beneath, top_cell}

-- the cell is the top of a trie that lies in the memory, with offsets from low on
pub record IsTop (has : ℕ → Cell → Type 0) (low : ℕ) (cell : Cell) (t : Tree) : Type 0 where
  pub tree : IsTree low t
  pub is : cell ≡ top_cell t
  pub beneath : Beneath has t

-- the leaf says where the entry's item lies
pub record IsLeafOf (has : ℕ → Cell → Type 0) (e : Entry) (l : Leaf) : Type 0 where
  pub entry : IsEntry e
  pub item : HasItem has l.at l.len e.item

-- and the item says the entry's key
abbrev pub IsNamed : (ℕ → Cell → Type 0) → Leaf → Entry → Type 0
IsNamed has l e = IsLeafOf has e l × Leads e.key e.item

-- each item says its entry's key
abbrev pub EachTells : (List ℕ → List ℕ → Type 0) → List Entry → Type 0
EachTells tells es = (e : Entry) → InList e es → tells e.key e.item

-- the leaf of the key's entry, exactly where there is one
abbrev pub Gives : (ℕ → Cell → Type 0) → List ℕ → List Entry → Option Leaf → Type 0
Gives has key es None = (e : Entry) → InList e es → e.key ≡ key → ⊥
Gives has key es (Some l) = (e : Entry) × InList e es × (e.key ≡ key) × IsLeafOf has e l

-- the leaf that a key leads to: no other entry can have the key
abbrev pub LeadsKey : (ℕ → Cell → Type 0) → List ℕ → List Entry → Option Leaf → Type 0
LeadsKey has key es None = (e : Entry) → InList e es → e.key ≡ key → ⊥
LeadsKey has key es (Some l) = (e : Entry) × InList e es × IsLeafOf has e l × ((x : Entry) → InList x es → x.key ≡ key → x ≡ e)

-- the leaf of the key's entry, exactly where there is one
abbrev pub FindsLeaf : (Leaf → Entry → Type 0) → List ℕ → List Entry → Option Leaf → Type 0
FindsLeaf lies key es None = (e : Entry) → InList e es → e.key ≡ key → ⊥
FindsLeaf lies key es (Some l) = (e : Entry) × InList e es × (e.key ≡ key) × lies l e

-- nothing is noted in what counts steps, by its name and its parts
pub record IsBlank {N : Type 0} (name : N) (parts : ℕ) (blank_name : N) (blank_parts : ℕ) : Type 0 where
  pub named : blank_name ≡ name
  pub whole : blank_parts ≡ parts
  pub some : 0 < parts
