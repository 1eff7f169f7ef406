use Rattle.std.proofs.Common.{◌-◌}
use Rattle.trie_write.proofs.descend.+last_descent.Given as goal

abbrev pub decreases-last_descent : goal.decreases-last_descent
decreases-last_descent g l = 504 - l.low
