use Rattle.std.proofs.Common.{◌≡◌, ◌++◌, drop}
use Rattle.std.specs.Option.{option_map}
use Rattle.zone_model.specs.DataWords as says
use Rattle.zone_text.specs.Escapes.{behind_view, BehindSmall}
use Rattle.zone_text.proofs.escapes.push_unescaped.Given as goal

abbrev pub invariant-loop-octet : goal.invariant-loop-octet
invariant-loop-octet l = record {
  small : BehindSmall l.behind;
  goes_on : option_map (λ cs. l.fn.out.items ++ cs) (says.octets_from says.Plain l.text) ≡ option_map (λ cs. l.out.items ++ cs) (says.octets_from (behind_view l.behind) (drop l.octet-index l.text));
}
