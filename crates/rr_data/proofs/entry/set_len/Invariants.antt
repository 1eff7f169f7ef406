use Rattle.std.proofs.Common.{◌≡◌, ◌+◌, ◌-◌, ◌^◌, min, length, take}
use Rattle.std.specs.List.{flat_map}
use Rattle.zone_model.specs.Records.{record_bytes}
use Rattle.rr_data.proofs.entry.set_len.Given as goal

abbrev pub invariant-loop-kept : goal.invariant-loop-kept
invariant-loop-kept l = l.len ≡ min (8 + length (flat_map record_bytes (take l.kept-index l.kept-items))) (2 ^ 64 - 1)
