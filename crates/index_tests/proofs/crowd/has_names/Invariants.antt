use Rattle.std.proofs.Common.{◌≡◌}
use Rattle.index_tests.proofs.crowd.has_names.Given as goal

abbrev pub invariant-loop-place : goal.invariant-loop-place
invariant-loop-place g l = l.reading ≡ l.initial.reading
