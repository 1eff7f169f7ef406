use Rattle.std.proofs.Common.{◌++◌, take}
use Rattle.std.specs.List.{flat_map}
use Rattle.zone_model.specs.Keys.{octet_positions}
use Rattle.shift_key.specs.Laid.{IsFront}
use Rattle.shift_key.proofs.encode.put_label.Given as goal

abbrev pub invariant-loop-octet : goal.invariant-loop-octet
invariant-loop-octet l = IsFront (take l.start l.fn.places ++ flat_map octet_positions (take l.octet-index l.label)) l.at l.places
