use Rattle.std.proofs.Common.{◌≡◌, ◌+◌, ◌++◌, drop, take, length}
use Rattle.std.specs.List.{flat_map}
use Rattle.zone_model.specs.Records.{record_bytes}
use Rattle.rr_data.proofs.encoding.put_records.Given as goal

abbrev pub invariant-loop-kept : goal.invariant-loop-kept
invariant-loop-kept l = record {
  end : l.end + length (flat_map record_bytes (drop l.kept-index l.records)) ≡ l.at + length (flat_map record_bytes l.records);
  goes_on : take l.at l.fn.out ++ flat_map record_bytes l.records ≡ take l.end l.out ++ flat_map record_bytes (drop l.kept-index l.records);
}
