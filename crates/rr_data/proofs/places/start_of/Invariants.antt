use Rattle.std.proofs.Common.{◌≤◌, ◌-◌, length}
use Rattle.rr_data.specs.Places.{AreLower}
use Rattle.rr_data.proofs.places.start_of.Given as goal

abbrev pub invariant-loop-at : goal.invariant-loop-at
invariant-loop-at l = record {
  before : l.at ≤ l.end;
  within : l.end ≤ length l.sets;
  lower : AreLower l.rtype l.sets l.at;
}

abbrev pub decreases-loop-at : goal.decreases-loop-at
decreases-loop-at l = l.end - l.at
