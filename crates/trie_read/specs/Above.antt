-- The names above a key's, by their leaves.
use Rattle.std.specs.Prelude.{◌≡◌, ℕ, suc, ◌≤◌, List, [], ◌∷◌, Option, Some, None, slice_get, take}
use Rattle.packed_node.specs.declared.Cell.{Cell}
use Rattle.packed_node.specs.declared.Leaf.{Leaf}
use Rattle.zone_model.specs.Keys.{Leads}
use Rattle.trie_model.specs.Extents.{Extents}
use Rattle.trie_model.specs.Keys.{Same, Entry, InList}
use Rattle.trie_model.specs.Order.{EndsAt, labels_in}
use Rattle.trie_model.specs.Trees.{Tree, Twigs, entries_of}
use Rattle.trie_model.specs.Trees.Tree.{leaf, branch}
use Rattle.trie_model.specs.Trees.Twigs.{twig}
use Rattle.trie_model.specs.Memory.{top_cell}
use Rattle.trie_read.specs.Reads.{IsLeafOf, EachTells}
use Rattle.trie_read.specs.Walks.{Guided, LeadsTo}
use Rattle.trie_read.specs.declared.ancestors.Ancestor.{Ancestor}
use Rattle.shift_key.specs.declared.difference.Difference.{Difference}
use Rattle.trie_read.specs.declared.path.Step.{Step}
use Rattle.trie_read.specs.declared.path.Path.{Path}

-- these are the leaves of the entries, one by one, each with how many labels its name has
abbrev pub AreAncestors : (Leaf → Entry → Type 0) → List Entry → List Ancestor → Type 0
AreAncestors lies [] [] = Unit {0}
AreAncestors lies [] (a ∷ names) = ⊥
AreAncestors lies (e ∷ es) [] = ⊥
AreAncestors lies (e ∷ es) (a ∷ names) = lies a.leaf e × (a.labels ≡ labels_in e.key) × AreAncestors lies es names

-- a path that the key guides, with these entries before its end; its branches lie before the place at which the key first differs from an entry there
pub record Passes (has : ℕ → Cell → Type 0) (key : List ℕ) (path : Path) (root : ℕ) (before : List Entry) : Type 0 where
  pub whole : Tree
  pub tree : Tree
  pub after : List Entry
  pub top : has root (top_cell whole)
  pub leads : LeadsTo (Guided key) has path whole tree before after
  pub told : EachTells Leads (entries_of whole)
  pub met : Entry
  pub there : InList met (entries_of tree)
  pub place : ℕ
  pub same : Same place key met.key
  pub early : (n : ℕ) (step : Step) → suc n ≡ path.depth → slice_get path.steps n ≡ Some step → step.offset ≤ place

-- the first twig of the branch is a leaf at position 0; or none is
abbrev pub HasEnding : (ℕ → Cell → Type 0) → Tree → Option Leaf → Type 0
HasEnding has t (Some l) = (o : ℕ) × ((w : ℕ) × ((e : Entry) × ((x : Extents) × ((rest : Twigs) × (t ≡ branch o w (twig 0 (leaf e x) rest)) × IsLeafOf has e l))))
HasEnding has t None = (o w : ℕ) (e : Entry) (x : Extents) (rest : Twigs) → t ≡ branch o w (twig 0 (leaf e x) rest) → ⊥

-- the leaf that was met is the key's own, or that of a name above: it ends where a label of the key does
abbrev pub IsAtOrAbove : List ℕ → Option Difference → Type 0
IsAtOrAbove key None = Unit {0}
IsAtOrAbove key (Some d) = (d.position ≡ 0) × EndsAt d.place key

-- how many labels its name has then
abbrev pub labels_of_met : List ℕ → Option Difference → ℕ
labels_of_met key None = labels_in key
labels_of_met key (Some d) = labels_in (take d.place key)
