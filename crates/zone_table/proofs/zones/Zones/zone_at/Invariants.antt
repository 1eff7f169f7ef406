use Rattle.std.specs.Prelude.{◌≡◌, ◌<◌, ℕ, Some, slice_get}
use Rattle.zone_table.specs.Remembered.{IsAt}
use Rattle.zone_table.proofs.zones.Zones.zone_at.Given as goal

-- it is none of those before
abbrev pub invariant-loop-zone : goal.invariant-loop-zone
invariant-loop-zone g l = (k zone : ℕ) → k < l.zone-index → slice_get l.zone-items k ≡ Some zone → IsAt l.self.origins.items l.attached l.octets zone → ⊥
