-- What the top cell of a tree tells.
use Rattle.std.proofs.Common.{◌≡◌, ℕ, length, sym, ◌∙◌, ap, refl}
use Rattle.packed_node.specs.declared.Cell.{Cell}
use Rattle.packed_node.specs.declared.Leaf.{Leaf}
use Rattle.packed_node.specs.declared.Branch.{Branch}
use Rattle.packed_node.specs.declared.Node.{Node}
use Rattle.packed_node.specs.declared.Node.TheVariants as node
use Rattle.packed_node.specs.Nodes.{IsNode, packed}
use Rattle.trie_model.specs.Extents.{first_of}
use Rattle.trie_model.specs.Memory.{node_of, top_cell}
use Rattle.trie_model.specs.Trees.{Tree, IsTree, bitmap_of}
use Rattle.trie_model.specs.Trees.Tree.{leaf, branch}
use Rattle.trie_model.proofs.TopLaws.{is_node}
use Rattle.trie_write.specs.Tops.{IsBranchTop, IsLeafTop}

same_leaf : (x y : Leaf) → node.Leaf x ≡ node.Leaf y → x ≡ y
same_leaf x y e = cc

same_branch : (x y : Branch) → node.Branch x ≡ node.Branch y → x ≡ y
same_branch x y e = cc

apart : {A : Type 0} (b : Branch) (l : Leaf) → node.Branch b ≡ node.Leaf l → A
apart b l e = absurd cc

leaf_kind : (t : Tree) (l : Leaf) → node_of t ≡ node.Leaf l → IsLeafTop t l
leaf_kind (branch o w below) l h = apart (record { offset = o; bitmap = bitmap_of below; twigs = w }) l h
leaf_kind (leaf e w) l h =
    let same = same_leaf (record { len = length e.item; at = first_of w }) l h in
    record { e = e; extents = w; is = refl; at = sym (ap (λ (x : Leaf). x.at) same); len = sym (ap (λ (x : Leaf). x.len) same) }

branch_kind : (t : Tree) (b : Branch) → node_of t ≡ node.Branch b → IsBranchTop t b
branch_kind (leaf e w) b h = apart b (record { len = length e.item; at = first_of w }) (sym h)
branch_kind (branch o w below) b h =
    let same = same_branch (record { offset = o; bitmap = bitmap_of below; twigs = w }) b h in
    record { below = below; is = ap (λ (x : Branch). branch x.offset x.twigs below) same; bits = sym (ap (λ (x : Branch). x.bitmap) same) }

pub leaf_top : (low : ℕ) (cell : Cell) (t : Tree) (n : Node) (l : Leaf) → IsTree low t → cell ≡ top_cell t → ((m : Node) → IsNode m → packed m ≡ cell → n ≡ m) → n ≡ node.Leaf l → IsLeafTop t l
leaf_top low cell t n l tree is back e = leaf_kind t l (sym (back (node_of t) (is_node low t tree) (sym is)) ∙ e)

pub branch_top : (low : ℕ) (cell : Cell) (t : Tree) (n : Node) (b : Branch) → IsTree low t → cell ≡ top_cell t → ((m : Node) → IsNode m → packed m ≡ cell → n ≡ m) → n ≡ node.Branch b → IsBranchTop t b
branch_top low cell t n b tree is back e = branch_kind t b (sym (back (node_of t) (is_node low t tree) (sym is)) ∙ e)
