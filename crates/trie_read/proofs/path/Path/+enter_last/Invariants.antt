use Rattle.std.proofs.Common.{◌-◌}
use Rattle.trie_read.proofs.path.Path.+enter_last.Given as goal

abbrev pub decreases-enter_last : goal.decreases-enter_last
decreases-enter_last g l = 504 - l.self.now.depth
