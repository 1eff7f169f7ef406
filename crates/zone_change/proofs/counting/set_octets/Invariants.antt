use Rattle.std.proofs.Common.{◌≡◌, ◌+◌, length}
use Rattle.std.specs.List.{flat_map}
use Rattle.zone_model.specs.Records.{record_bytes}
use Rattle.zone_change.proofs.counting.set_octets.Given as goal

abbrev pub invariant-loop-other : goal.invariant-loop-other
invariant-loop-other l = l.octets + length (flat_map record_bytes l.records) ≡ 8 + length (flat_map record_bytes l.set.records)

abbrev pub decreases-loop-other : goal.decreases-loop-other
decreases-loop-other l = length l.records
