use Rattle.std.proofs.Common.{◌≡◌}
use Rattle.trie_tests.proofs.usage.answers.Given as goal

abbrev pub invariant-loop-i : goal.invariant-loop-i
invariant-loop-i l = record {
  same : l.cells.given.items ≡ l.usage.given;
  rows : l.usage.rows ≡ l.fn.usage.rows;
  passes : l.usage.passes ≡ l.fn.usage.passes;
}
