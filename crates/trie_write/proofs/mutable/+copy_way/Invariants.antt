use Rattle.std.proofs.Common.{◌-◌}
use Rattle.trie_write.proofs.mutable.+copy_way.Given as goal

abbrev pub decreases-copy_way : goal.decreases-copy_way
decreases-copy_way g l = 504 - l.low
