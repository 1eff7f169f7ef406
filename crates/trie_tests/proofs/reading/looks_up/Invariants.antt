use Rattle.std.proofs.Common.{◌≡◌, Some, slice_get}
use Rattle.trie_read.specs.Walks.{StandsSomewhere}
use Rattle.trie_tests.proofs.reading.looks_up.Given as goal

abbrev pub invariant-loop-wire : goal.invariant-loop-wire
invariant-loop-wire l = StandsSomewhere (λ q d. slice_get l.cells.cells.items q ≡ Some d) l.place
