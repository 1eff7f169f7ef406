use Rattle.std.proofs.Common.{◌≡◌, length}
use Rattle.zone_model.specs.Versions.{owned}
use Rattle.zone_dump.proofs.zones.find_item.Given as goal

abbrev pub invariant-names : goal.invariant-names
invariant-names l = owned l.name l.left ≡ owned l.name l.fn.left

abbrev pub decreases-names : goal.decreases-names
decreases-names l = length l.left
