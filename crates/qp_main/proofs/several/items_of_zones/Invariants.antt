use Rattle.std.proofs.Common.{◌≡◌, ◌++◌, List, length}
use Rattle.std.specs.Vec.Iter.{into_iter_items, into_iter_len}
use Rattle.zone_table.specs.declared.opening.ZoneItems.{ZoneItems}
use Rattle.qp_main.specs.Opens.{AreAllItems}
use Rattle.qp_main.proofs.several.items_of_zones.Given as goal

-- with those of the zones that are left, they are those of all
abbrev pub invariant-loop-zone : goal.invariant-loop-zone
invariant-loop-zone l = ((rest : List ZoneItems) → AreAllItems (into_iter_items l.zone-iterator) rest → AreAllItems l.fn.zones.items (l.all.items ++ rest))
    × (into_iter_len l.zone-iterator ≡ length (into_iter_items l.zone-iterator))
