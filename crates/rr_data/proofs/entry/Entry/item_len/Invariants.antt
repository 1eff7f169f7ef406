use Rattle.std.proofs.Common.{◌≡◌, ◌+◌, ◌-◌, ◌^◌, min, length, take}
use Rattle.std.specs.List.{flat_map}
use Rattle.zone_model.specs.Names.{wire}
use Rattle.zone_model.specs.Records.{rrset_bytes}
use Rattle.rr_data.proofs.entry.Entry.item_len.Given as goal

abbrev pub invariant-loop-set : goal.invariant-loop-set
invariant-loop-set l = l.len ≡ min (length (wire l.owner) + 2 + length (flat_map rrset_bytes (take l.set-index l.set-items))) (2 ^ 64 - 1)
