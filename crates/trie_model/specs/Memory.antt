-- A trie in a memory of cells. A memory is what it has: a relation between references and cells, as a finite list of pairs is one.
use Rattle.std.specs.Prelude.{◌≡◌, ℕ, suc, ◌<◌, ◌≤◌, ◌^◌, List, [], length, Option, Some, None, Contains, count_by, ◌==◌}
use Rattle.packed_node.specs.declared.Cell.{Cell}
use Rattle.packed_node.specs.declared.Node.{Node}
use Rattle.packed_node.specs.declared.Node.TheVariants as node
use Rattle.packed_node.specs.Nodes.{packed}
use Rattle.trie_model.specs.Extents.{first_of, ItemLies}
use Rattle.trie_model.specs.Keys.{Entry}
use Rattle.trie_model.specs.Trees.{Tree, Twigs, entries_of, bitmap_of, IsTree}
use Rattle.trie_model.specs.Trees.Tree.{leaf, branch}
use Rattle.trie_model.specs.Trees.Twigs.{none, twig}
use Rattle.trie_model.specs.Reach.{reach}

-- the memory of a finite list of references and cells
abbrev pub listed : List (ℕ × Cell) → ℕ → Cell → Type 0
listed pairs r c = Contains pairs (r, c)

-- a tree's top node, and its cell
abbrev pub node_of : Tree → Node
node_of (leaf e x) = node.Leaf (record { len = length e.item; at = first_of x })
node_of (branch o where_at below) = node.Branch (record { offset = o; bitmap = bitmap_of below; twigs = where_at })

abbrev pub top_cell : Tree → Cell
top_cell t = packed (node_of t)

abbrev mutual
  -- what hangs on the top node lies in the memory
  pub Beneath : (ℕ → Cell → Type 0) → Tree → Type 0
  Beneath has (leaf e x) = ItemLies has x e.item
  Beneath has (branch o where_at below) = Lie has where_at below

  -- the twigs lie side by side from r on
  pub Lie : (ℕ → Cell → Type 0) → ℕ → Twigs → Type 0
  Lie has r none = Unit {0}
  Lie has r (twig p t rest) = has r (top_cell t) × Beneath has t × Lie has (suc r) rest

-- the trie of these entries, with its top node at r
pub record IsTrieAt (has : ℕ → Cell → Type 0) (r : ℕ) (t : Tree) (version : List Entry) : Type 0 where
  pub shape : IsTree 0 t
  pub inside : r < 2 ^ 22
  pub top : has r (top_cell t)
  pub beneath : Beneath has t
  -- no cell is met twice
  pub once : (q : ℕ) → count_by (λ x. x == q) (reach r t) ≤ 1
  pub holds : entries_of t ≡ version

-- the root is that of a trie whose leaves give the version, in its order; no root is that of the empty version
abbrev pub Stands : (ℕ → Cell → Type 0) → Option ℕ → List Entry → Type 0
Stands has None version = version ≡ []
Stands has (Some r) version = (t : Tree) × IsTrieAt has r t version
