-- The top node of a tree is a node that a cell can pack.
use Rattle.std.proofs.Common.{ℕ, ◌≤◌, length, arith}
use Rattle.packed_node.specs.Nodes.{IsNode}
use Rattle.trie_model.proofs.BitmapLaws.{below_all, ones_of}
use Rattle.trie_model.proofs.ExtentLaws.{first_inside}
use Rattle.trie_model.proofs.SplitLaws.{rising_of}
use Rattle.trie_model.specs.Memory.{node_of}
use Rattle.trie_model.specs.Trees.{Tree, IsTree}
use Rattle.trie_model.specs.Trees.Tree.{leaf, branch}

pub is_node : (low : ℕ) (t : Tree) → IsTree low t → IsNode (node_of t)
is_node low (leaf e x) h = record { some = h.0.item.some; short = h.0.item.short; inside = first_inside (length e.item) x h.0.item.some h.1 }
is_node low (branch o where_at below) h =
    let r = rising_of o 0 below (let z : 0 ≤ 47 = omega arith in z) h.5 in
    let n = ones_of 0 47 below r in
    record { positions = below_all 0 47 below r; two = (let k = h.3 in omega arith); early = h.1; inside = (let k = h.3 in let m = h.2.inside in omega arith) }
