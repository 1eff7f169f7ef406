use Rattle.std.proofs.Common.{◌≡◌, drop}
use Rattle.zone_model.specs.Records.{has_record}
use Rattle.rr_data.proofs.rrset.has_octets.Given as goal

abbrev pub invariant-loop-kept : goal.invariant-loop-kept
invariant-loop-kept l = has_record l.octets l.records ≡ has_record l.octets (drop l.kept-index l.records)
