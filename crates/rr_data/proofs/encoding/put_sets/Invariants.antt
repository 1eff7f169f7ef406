use Rattle.std.proofs.Common.{◌≡◌, ◌+◌, ◌++◌, drop, take, length}
use Rattle.std.specs.List.{flat_map}
use Rattle.zone_model.specs.Records.{rrset_bytes}
use Rattle.rr_data.proofs.encoding.put_sets.Given as goal

abbrev pub invariant-loop-set : goal.invariant-loop-set
invariant-loop-set l = record {
  end : l.end + length (flat_map rrset_bytes (drop l.set-index l.sets)) ≡ l.at + length (flat_map rrset_bytes l.sets);
  goes_on : take l.at l.fn.out ++ flat_map rrset_bytes l.sets ≡ take l.end l.out ++ flat_map rrset_bytes (drop l.set-index l.sets);
}
