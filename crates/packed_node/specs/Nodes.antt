-- Nodes of the trie, and the two words that say each (after BIND's lib/dns/qp_p.h, with other sizes of the fields).
use Rattle.std.specs.Prelude.{◌≡◌, ℕ, ◌+◌, ◌*◌, ◌/◌, ◌%◌, ◌^◌, ◌<◌, ◌≤◌, ◌⊎◌, count_ones}
use Rattle.packed_node.specs.declared.Cell.{Cell}
use Rattle.packed_node.specs.declared.Leaf.{Leaf}
use Rattle.packed_node.specs.declared.Branch.{Branch}
use Rattle.packed_node.specs.declared.Node.{Node}
use Rattle.packed_node.specs.declared.Node.TheVariants as node

-- what a leaf and a branch may be
pub record IsLeaf (leaf : Leaf) : Type 0 where
  pub some : 0 < leaf.len
  pub short : leaf.len ≤ 65535
  pub inside : leaf.at < 2 ^ 22

pub record IsBranch (branch : Branch) : Type 0 where
  pub positions : branch.bitmap < 2 ^ 47
  pub two : 2 ≤ count_ones branch.bitmap
  pub early : branch.offset ≤ 503
  pub inside : branch.twigs < 2 ^ 22

abbrev pub IsNode : Node → Type 0
IsNode (node.Leaf leaf) = IsLeaf leaf
IsNode (node.Branch branch) = IsBranch branch

-- bits 0 and 1 are the tag; above it a leaf has the item's length, a branch its bitmap and from bit 49 its offset
abbrev pub leaf_cell : Leaf → Cell
leaf_cell leaf = record { big = 4 * leaf.len; small = leaf.at }

abbrev pub branch_cell : Branch → Cell
branch_cell branch = record { big = 1 + 4 * branch.bitmap + 2 ^ 49 * branch.offset; small = branch.twigs }

abbrev pub packed : Node → Cell
packed (node.Leaf leaf) = leaf_cell leaf
packed (node.Branch branch) = branch_cell branch

-- the words say some node
abbrev pub SaysNode : Cell → Type 0
SaysNode cell = (n : Node) × IsNode n × (packed n ≡ cell)

-- words that say no node
abbrev pub tag : Cell → ℕ
tag cell = cell.big % 4

abbrev pub length_in : Cell → ℕ
length_in cell = cell.big / 4

abbrev pub bitmap_in : Cell → ℕ
bitmap_in cell = cell.big / 4 % 2 ^ 47

abbrev pub offset_in : Cell → ℕ
offset_in cell = cell.big / 2 ^ 49

abbrev pub IsNoNode : Cell → Type 0
IsNoNode cell =
    (2 ^ 22 ≤ cell.small)
    ⊎ ((tag cell ≡ 0) × ((length_in cell ≡ 0) ⊎ (65535 < length_in cell)))
    ⊎ ((tag cell ≡ 1) × ((count_ones (bitmap_in cell) < 2) ⊎ (503 < offset_in cell)))
    ⊎ (2 ≤ tag cell)
