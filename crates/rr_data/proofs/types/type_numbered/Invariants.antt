use Rattle.std.proofs.Common.{◌≡◌, drop, map, eqb}
use Rattle.std.specs.List.{find}
use Rattle.zone_model.specs.Types.{NamedType, type_numbered}
use Rattle.rr_data.specs.Fields.{type_view}
use Rattle.rr_data.proofs.types.type_numbered.Given as goal

abbrev pub invariant-loop-row : goal.invariant-loop-row
invariant-loop-row l = type_numbered l.rtype ≡ find (λ (t : NamedType). eqb t.number l.rtype) (map type_view (drop l.row-index l.row-items))
