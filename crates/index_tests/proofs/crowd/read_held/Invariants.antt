use Rattle.std.proofs.Common.{◌≡◌}
use Rattle.index_tests.proofs.crowd.read_held.Given as goal

abbrev pub invariant-loop : goal.invariant-loop
invariant-loop g l = l.snapshot ≡ l.initial.snapshot
