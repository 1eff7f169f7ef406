use Rattle.std.proofs.Common.{◌-◌, length}
use Rattle.job_script.proofs.PartsLemmas.{Searched}
use Rattle.job_script.proofs.parts.find_cut.Given as goal

abbrev pub invariant-loop-at : goal.invariant-loop-at
invariant-loop-at l = Searched l.bytes l.at l.line

abbrev pub decreases-loop-at : goal.decreases-loop-at
decreases-loop-at l = length l.bytes - l.at
