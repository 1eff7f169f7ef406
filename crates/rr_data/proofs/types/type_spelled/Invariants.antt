use Rattle.std.proofs.Common.{◌≡◌, drop, map}
use Rattle.std.specs.List.{find}
use Rattle.std.specs.Str.{str_eq_ignore_ascii_case}
use Rattle.zone_model.specs.Types.{NamedType, type_spelled}
use Rattle.rr_data.specs.Fields.{type_view}
use Rattle.rr_data.proofs.types.type_spelled.Given as goal

abbrev pub invariant-loop-row : goal.invariant-loop-row
invariant-loop-row l = type_spelled l.text ≡ find (λ (t : NamedType). str_eq_ignore_ascii_case l.text t.mnemonic) (map type_view (drop l.row-index l.row-items))
