-- What a node that was read tells of the tree that it is the top of.
use Rattle.std.proofs.Common.{◌≡◌, ℕ, ◌+◌, ◌-◌, ◌<◌, [], ◌∷◌, arith, sym, ◌∙◌, ap, subst}
use Rattle.packed_node.specs.declared.Cell.{Cell}
use Rattle.packed_node.specs.declared.Leaf.{Leaf}
use Rattle.packed_node.specs.declared.Branch.{Branch}
use Rattle.packed_node.specs.declared.Node.{Node}
use Rattle.packed_node.specs.declared.Node.TheVariants as node
use Rattle.packed_node.specs.Nodes.{IsNode, SaysNode, packed}
use Rattle.trie_model.specs.Extents.{Extents, AreExtents, HasItem}
use Rattle.trie_model.specs.Keys.{Entry}
use Rattle.trie_model.specs.Trees.{Tree, entries_of, IsTree}
use Rattle.trie_model.specs.Trees.Tree.{leaf}
use Rattle.trie_model.specs.Memory.{node_of, Beneath}
use Rattle.trie_model.proofs.NodeLaws.{says_node, node_read, leaf_said}
pub use Rattle.trie_model.proofs.NodeLaws.{BranchTold, branch_told}
use Rattle.trie_read.specs.Reads.{IsTop, IsLeafOf}

pub says_top : (has : ℕ → Cell → Type 0) (low : ℕ) (c : Cell) (t : Tree) → IsTop has low c t → SaysNode c
says_top has low c t top = says_node low t c top.tree top.is

pub top_read : (has : ℕ → Cell → Type 0) (low : ℕ) (c : Cell) (t : Tree) (r : Node) → IsTop has low c t → ((n : Node) → IsNode n → packed n ≡ c → r ≡ n) → r ≡ node_of t
top_read has low c t r top back = node_read low t c r top.tree top.is back

pub branch_read : (has : ℕ → Cell → Type 0) (low : ℕ) (c : Cell) (t : Tree) (r : Node) (b : Branch) → IsTop has low c t → ((n : Node) → IsNode n → packed n ≡ c → r ≡ n) → r ≡ node.Branch b → BranchTold t b
branch_read has low c t r b top back is = branch_told t b (sym (top_read has low c t r top back) ∙ is)

-- the tree is a leaf
pub record LeafTold (has : ℕ → Cell → Type 0) (t : Tree) (l : Leaf) : Type 0 where
  pub entry : Entry
  pub extents : Extents
  pub tree : t ≡ leaf entry extents
  pub is : entries_of t ≡ entry ∷ []
  pub leaf_of : IsLeafOf has entry l

pub leaf_told : (has : ℕ → Cell → Type 0) (low : ℕ) (t : Tree) (l : Leaf) → IsTree low t → Beneath has t → node_of t ≡ node.Leaf l → LeafTold has t l
leaf_told has low t l tree beneath is =
    let x = leaf_said t l is in
    let shape : IsTree low (leaf x.entry x.extents) = subst (IsTree low) x.is tree in
    let are = subst (λ (n : ℕ). AreExtents n x.extents) (sym x.len) shape.1 in
    let item : HasItem has l.at l.len x.entry.item = record { extents = x.extents; there = record { from = sym x.at; size = sym x.len; are = are; lies = subst (Beneath has) x.is beneath } } in
    record { entry = x.entry; extents = x.extents; tree = x.is; is = ap entries_of x.is; leaf_of = record { entry = shape.0; item = item } }

pub leaf_read : (has : ℕ → Cell → Type 0) (low : ℕ) (c : Cell) (t : Tree) (r : Node) (l : Leaf) → IsTop has low c t → ((n : Node) → IsNode n → packed n ≡ c → r ≡ n) → r ≡ node.Leaf l → LeafTold has t l
leaf_read has low c t r l top back is = leaf_told has low t l top.tree top.beneath (sym (top_read has low c t r top back) ∙ is)

-- the offset lies in range, so offsets come to an end
pub falls_in : (has : ℕ → Cell → Type 0) (low : ℕ) (c : Cell) (t : Tree) (b : Branch) → IsTop has low c t → BranchTold t b → 504 - (b.offset + 1) < 504 - low
falls_in has low c t b top x =
    let tree = subst (IsTree low) x.is top.tree in let a = tree.0 in let d = tree.1 in omega arith
