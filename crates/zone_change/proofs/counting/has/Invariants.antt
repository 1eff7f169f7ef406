use Rattle.std.proofs.Common.{◌≡◌, length}
use Rattle.zone_model.specs.Records.{has_record}
use Rattle.zone_change.proofs.counting.has.Given as goal

abbrev pub invariant-loop-other : goal.invariant-loop-other
invariant-loop-other l = has_record l.octets l.set.records ≡ has_record l.octets l.records

abbrev pub decreases-loop-other : goal.decreases-loop-other
decreases-loop-other l = length l.records
