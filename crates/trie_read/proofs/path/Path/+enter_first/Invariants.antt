use Rattle.std.proofs.Common.{◌-◌}
use Rattle.trie_read.proofs.path.Path.+enter_first.Given as goal

abbrev pub decreases-enter_first : goal.decreases-enter_first
decreases-enter_first g l = 504 - l.self.now.depth
