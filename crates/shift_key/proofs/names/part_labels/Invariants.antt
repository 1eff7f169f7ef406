use Rattle.std.proofs.Common.{◌≡◌, ◌+◌, length, take}
use Rattle.std.specs.List.{flat_map}
use Rattle.zone_model.specs.Keys.{octet_positions}
use Rattle.shift_key.proofs.names.part_labels.Given as goal

abbrev pub invariant-loop-i : goal.invariant-loop-i
invariant-loop-i l = record {
  same : take l.i l.first ≡ take l.i l.second;
  at_is : l.at ≡ l.start + length (flat_map octet_positions (take l.i l.first));
}
