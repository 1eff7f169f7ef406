use Rattle.std.proofs.Common.{◌≡◌, ◌<◌, ◌-◌, ◌^◌, drop}
use Rattle.dns_name.specs.SortKeys.{weight}
use Rattle.dns_name.proofs.sort_key.weight.Given as goal

abbrev pub invariant-loop-at : goal.invariant-loop-at
invariant-loop-at l = record {
  left : weight (7 - l.at) l.front (drop l.at l.octets) ≡ weight 7 0 l.octets;
  small : l.front < 512 ^ l.at;
}
