use Rattle.std.proofs.Common.{◌-◌}
use Rattle.trie_write.proofs.descend.+end_node.Given as goal

abbrev pub decreases-end_node : goal.decreases-end_node
decreases-end_node g l = 504 - l.low
