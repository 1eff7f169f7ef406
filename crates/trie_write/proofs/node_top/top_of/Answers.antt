use Rattle.trie_write.proofs.TopLaws.{leaf_top, branch_top}
use Rattle.trie_write.proofs.node_top.top_of.Goals as goal

pub returns-in-Leaf-clause-leaf : goal.returns-in-Leaf-clause-leaf
returns-in-Leaf-clause-leaf c low t tree is = leaf_top low c.args.node t c.of.result c.in-Leaf.leaf tree is c.of.ensures.back c.in-Leaf.is

pub returns-in-Branch-clause-branch : goal.returns-in-Branch-clause-branch
returns-in-Branch-clause-branch c low t tree is = branch_top low c.args.node t c.of.result c.in-Branch.branch tree is c.of.ensures.back c.in-Branch.is
