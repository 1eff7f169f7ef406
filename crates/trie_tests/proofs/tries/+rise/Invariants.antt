use Rattle.std.proofs.Common.{length}
use Rattle.trie_tests.proofs.tries.+rise.Given as goal

abbrev pub decreases-rise : goal.decreases-rise
decreases-rise l = length l.items.now
