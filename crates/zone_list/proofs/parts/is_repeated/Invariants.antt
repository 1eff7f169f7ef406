use Rattle.std.proofs.Common.{◌≡◌, drop}
use Rattle.std.specs.List.{list_any}
use Rattle.zone_model.specs.Names.{same_name}
use Rattle.zone_list.proofs.parts.is_repeated.Given as goal

abbrev pub invariant-loop-zone : goal.invariant-loop-zone
invariant-loop-zone l = list_any (λ zone. same_name zone.origin l.origin) l.earlier ≡ list_any (λ zone. same_name zone.origin l.origin) (drop l.zone-index l.earlier)
