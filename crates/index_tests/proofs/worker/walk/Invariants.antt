use Rattle.std.proofs.Common.{◌≡◌}
use Rattle.trie_read.specs.Readings.{IsStanding}
use Rattle.index_tests.proofs.worker.walk.Given as goal

abbrev pub invariant-loop-names : goal.invariant-loop-names
invariant-loop-names g l = record {
  same : l.reading ≡ l.initial.reading;
  standing : IsStanding (g.V.Reading.stands l.reading l.iter);
}
