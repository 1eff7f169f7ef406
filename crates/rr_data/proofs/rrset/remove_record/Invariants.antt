use Rattle.std.proofs.Common.{◌≡◌, ◌≤◌, ◌-◌, ◌++◌, take, drop, vec_len}
use Rattle.zone_model.specs.Records.{without_record}
use Rattle.rr_data.proofs.rrset.remove_record.Given as goal

abbrev pub invariant-loop-at : goal.invariant-loop-at
invariant-loop-at l = record {
  within : l.at ≤ vec_len l.records;
  kept : l.records.items ≡ l.fn.records.items;
  so_far : without_record l.octets l.records.items ≡ take l.at l.records.items ++ without_record l.octets (drop l.at l.records.items);
}

abbrev pub decreases-loop-at : goal.decreases-loop-at
decreases-loop-at l = vec_len l.records - l.at
