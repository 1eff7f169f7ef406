use Rattle.std.proofs.Common.{◌≡◌, ◌≤◌, ◌-◌, ◌++◌, take, drop, vec_len}
use Rattle.zone_model.specs.Records.{with_record}
use Rattle.rr_data.proofs.rrset.add_record.Given as goal

abbrev pub invariant-loop-at : goal.invariant-loop-at
invariant-loop-at l = record {
  within : l.at ≤ vec_len l.records;
  so_far : with_record l.fn.added l.records.items ≡ take l.at l.records.items ++ with_record l.fn.added (drop l.at l.records.items);
}

abbrev pub decreases-loop-at : goal.decreases-loop-at
decreases-loop-at l = vec_len l.records - l.at
