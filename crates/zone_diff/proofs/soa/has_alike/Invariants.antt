use Rattle.std.proofs.Common.{◌≡◌, length}
use Rattle.std.specs.List.{list_any}
use Rattle.zone_diff.specs.Serials.{counts_as}
use Rattle.zone_diff.proofs.soa.has_alike.Given as goal

abbrev pub invariant-loop-record : goal.invariant-loop-record
invariant-loop-record l = list_any (counts_as l.serial l.octets) l.set.records ≡ list_any (counts_as l.serial l.octets) l.records

abbrev pub decreases-loop-record : goal.decreases-loop-record
decreases-loop-record l = length l.records
