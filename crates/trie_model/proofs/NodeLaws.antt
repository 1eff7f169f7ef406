-- A tree by the cell of its top node.
use Rattle.std.proofs.Common.{◌≡◌, ℕ, suc, ◌-◌, ◌<◌, ◌≤◌, length, arith, refl, sym, ap}
use Rattle.packed_node.specs.declared.Cell.{Cell}
use Rattle.packed_node.specs.declared.Leaf.{Leaf}
use Rattle.packed_node.specs.declared.Branch.{Branch}
use Rattle.packed_node.specs.declared.Node.{Node}
use Rattle.packed_node.specs.declared.Node.TheVariants as node
use Rattle.packed_node.specs.Nodes.{IsNode, SaysNode, packed}
use Rattle.trie_model.specs.Keys.{Entry}
use Rattle.trie_model.specs.Trees.{Tree, Twigs, IsTree, bitmap_of}
use Rattle.trie_model.specs.Trees.Tree.{leaf, branch}
use Rattle.trie_model.specs.Extents.{Extents, first_of}
use Rattle.trie_model.specs.Memory.{node_of, top_cell}
use Rattle.trie_model.proofs.TopLaws.{is_node}

-- the cell says the tree's top node, and is read as that
pub says_node : (low : ℕ) (t : Tree) (c : Cell) → IsTree low t → c ≡ top_cell t → SaysNode c
says_node low t c tree is = (node_of t, is_node low t tree, sym is)

pub node_read : (low : ℕ) (t : Tree) (c : Cell) (r : Node) → IsTree low t → c ≡ top_cell t → ((n : Node) → IsNode n → packed n ≡ c → r ≡ n) → r ≡ node_of t
node_read low t c r tree is back = back (node_of t) (is_node low t tree) (sym is)

same_branch : (a b : Branch) → node.Branch a ≡ node.Branch b → a ≡ b
same_branch a b e = cc

same_leaf : (a b : Leaf) → node.Leaf a ≡ node.Leaf b → a ≡ b
same_leaf a b e = cc

leaf_no_branch : (l : Leaf) (b : Branch) → node.Leaf l ≡ node.Branch b → ⊥
leaf_no_branch l b e = cc

-- the tree is a branch
pub record BranchTold (t : Tree) (b : Branch) : Type 0 where
  pub below : Twigs
  pub is : t ≡ branch b.offset b.twigs below
  pub bitmap : b.bitmap ≡ bitmap_of below

pub branch_told : (t : Tree) (b : Branch) → node_of t ≡ node.Branch b → BranchTold t b
branch_told (leaf e w) b h = absurd (leaf_no_branch (record { len = length e.item; at = first_of w }) b h)
branch_told (branch o w below) b h =
    let same = same_branch (record { offset = o; bitmap = bitmap_of below; twigs = w }) b h in
    record { below = below; is = ap (λ (x : Branch). branch x.offset x.twigs below) same; bitmap = sym (ap (λ (x : Branch). x.bitmap) same) }

-- it is a leaf
pub record LeafSaid (t : Tree) (l : Leaf) : Type 0 where
  pub entry : Entry
  pub extents : Extents
  pub is : t ≡ leaf entry extents
  pub at : l.at ≡ first_of extents
  pub len : l.len ≡ length entry.item

pub leaf_said : (t : Tree) (l : Leaf) → node_of t ≡ node.Leaf l → LeafSaid t l
leaf_said (leaf e w) l h =
    let same = same_leaf (record { len = length e.item; at = first_of w }) l h in
    record { entry = e; extents = w; is = refl; at = sym (ap (λ (x : Leaf). x.at) same); len = sym (ap (λ (x : Leaf). x.len) same) }
leaf_said (branch o w below) l h = absurd (leaf_no_branch l (record { offset = o; bitmap = bitmap_of below; twigs = w }) (sym h))

-- how many places there are for branches from a node on: a walk downwards comes to an end
abbrev pub places_left : Node → ℕ
places_left (node.Leaf l) = 0
places_left (node.Branch b) = 504 - b.offset

pub fewer_left : (o : ℕ) (t : Tree) (b : Branch) → IsTree (suc o) t → b.offset ≡ o → o ≤ 503 → places_left (node_of t) < places_left (node.Branch b)
fewer_left o (leaf e w) b tree is early = omega arith
fewer_left o (branch p w below) b tree is early = let a = tree.0 in omega arith
