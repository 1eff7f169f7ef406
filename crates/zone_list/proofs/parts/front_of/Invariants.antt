use Rattle.std.proofs.Common.{◌-◌, length}
use Rattle.zone_list.proofs.CutLemmas.{Searched}
use Rattle.zone_list.proofs.parts.front_of.Given as goal

abbrev pub invariant-loop-at : goal.invariant-loop-at
invariant-loop-at l = Searched l.text l.at l.lines

abbrev pub decreases-loop-at : goal.decreases-loop-at
decreases-loop-at l = length l.text - l.at
