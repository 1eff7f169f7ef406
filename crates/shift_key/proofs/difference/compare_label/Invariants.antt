use Rattle.std.proofs.Common.{◌≡◌, ◌+◌, ℕ, List, ◌++◌, length, take}
use Rattle.std.specs.List.{flat_map}
use Rattle.zone_model.specs.Keys.{octet_positions}
use Rattle.shift_key.specs.Differences.{Agrees}
use Rattle.shift_key.proofs.difference.compare_label.Given as goal

abbrev pub invariant-loop-octet : goal.invariant-loop-octet
invariant-loop-octet l = record {
  at_is : l.at ≡ l.start + length (flat_map octet_positions (take l.octet-index l.label));
  agrees : (front : List ℕ) → Agrees l.key front l.start → Agrees l.key (front ++ flat_map octet_positions (take l.octet-index l.label)) l.at;
}
