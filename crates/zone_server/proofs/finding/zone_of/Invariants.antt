use Rattle.std.proofs.Common.{◌≡◌, ◌<◌, ℕ, Some}
use Rattle.std.specs.List.{slice_get}
use Rattle.zone_model.specs.Names.{Name}
use Rattle.zone_server.proofs.finding.zone_of.Given as goal

-- none of the zones so far has the origin
abbrev pub invariant-loop-zone : goal.invariant-loop-zone
invariant-loop-zone g l = (zone : ℕ) (other : Name) → zone < l.zone → slice_get l.zones.origins.items zone ≡ Some other → other ≡ l.origin → ⊥
