use Rattle.std.proofs.Common.{◌≡◌, ◌≤◌, ◌-◌, ◌++◌, take, drop, length}
use Rattle.zone_model.specs.Records.{with_record}
use Rattle.rr_data.proofs.rrset.start_of.Given as goal

abbrev pub invariant-loop-at : goal.invariant-loop-at
invariant-loop-at l = record {
  before : l.at ≤ l.end;
  within : l.end ≤ length l.records;
  lower : with_record l.octets l.records ≡ take l.at l.records ++ with_record l.octets (drop l.at l.records);
}

abbrev pub decreases-loop-at : goal.decreases-loop-at
decreases-loop-at l = l.end - l.at
