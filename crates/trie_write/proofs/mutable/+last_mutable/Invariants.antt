use Rattle.std.proofs.Common.{◌-◌}
use Rattle.trie_write.proofs.mutable.+last_mutable.Given as goal

abbrev pub decreases-last_mutable : goal.decreases-last_mutable
decreases-last_mutable g l = 504 - l.low
