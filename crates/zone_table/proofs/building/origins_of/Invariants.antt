use Rattle.std.specs.Prelude.{◌≡◌, All, take}
use Rattle.zone_model.specs.Names.{IsName}
use Rattle.zone_table.specs.Openings.{origins_of}
use Rattle.zone_table.proofs.building.origins_of.Given as goal

-- those of the zones so far
abbrev pub invariant-loop-zone : goal.invariant-loop-zone
invariant-loop-zone l = record {
  origins : l.origins.items ≡ origins_of (take l.zone-index l.zones);
  names : All IsName l.origins.items;
}
