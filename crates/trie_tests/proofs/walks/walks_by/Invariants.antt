use Rattle.std.proofs.Common.{◌≡◌}
use Rattle.trie_read.specs.Readings.{IsStanding}
use Rattle.trie_tests.proofs.walks.walks_by.Given as goal

abbrev pub invariant-loop-item : goal.invariant-loop-item
invariant-loop-item g l = IsStanding (g.R.Reading.stands l.reading l.iter)
