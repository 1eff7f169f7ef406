use Rattle.std.proofs.Common.{◌-◌}
use Rattle.trie_write.proofs.nearest.+nearest.Given as goal

abbrev pub decreases-nearest : goal.decreases-nearest
decreases-nearest g l = 504 - l.low
