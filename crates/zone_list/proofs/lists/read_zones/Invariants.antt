use Rattle.std.proofs.Common.{◌≡◌, ◌≤◌, ◌+◌, ◌-◌, [], drop, length}
use Rattle.zone_model.specs.Lines.{lines_of}
use Rattle.zone_list.specs.Lists.{cut_from, zones_from}
use Rattle.zone_list.specs.Views.{IsAtPart}
use Rattle.zone_list.proofs.lists.read_zones.Given as goal

abbrev pub invariant-loop-at : goal.invariant-loop-at
invariant-loop-at l = record {
  goes_on : zones_from [] (cut_from 1 (lines_of l.bytes)).parts ≡ zones_from l.zones.items (cut_from l.number (lines_of (drop l.at l.bytes))).parts;
  at_part : IsAtPart l.bytes l.at;
  inside : l.at ≤ length l.bytes;
  below : l.number ≤ l.at + 1;
}

abbrev pub decreases-loop-at : goal.decreases-loop-at
decreases-loop-at l = length l.bytes - l.at
