use Rattle.std.proofs.Common.{◌≡◌}
use Rattle.trie_tests.proofs.reading.are_neighbours.Given as goal

abbrev pub invariant-loop-wire : goal.invariant-loop-wire
invariant-loop-wire l = l.cells ≡ l.initial.cells
