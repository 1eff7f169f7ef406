use Rattle.std.proofs.Common.{length}
use Rattle.dns_name.proofs.UnderLemmas.{Passed}
use Rattle.dns_name.proofs.wire.under.Given as goal

abbrev pub invariant-loop-rest : goal.invariant-loop-rest
invariant-loop-rest l = Passed l.fn.a l.rest l.fn.b

abbrev pub decreases-loop-rest : goal.decreases-loop-rest
decreases-loop-rest l = length l.rest
