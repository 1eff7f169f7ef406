use Rattle.std.proofs.Common.{◌≡◌, ◌++◌, drop}
use Rattle.zones_model.specs.Commands.{origins_of}
use Rattle.qp_main.proofs.several.origins_of.Given as goal

abbrev pub invariant-loop-zone : goal.invariant-loop-zone
invariant-loop-zone l = l.origins.items ++ origins_of (drop l.zone-index l.zones) ≡ origins_of l.zones
