use Rattle.std.proofs.Common.{ap, sym, ◌∙◌}
use Rattle.zone_text.specs.Escapes.{behind_view}
use Rattle.zone_text.proofs.EscapeLemmas.{two_push}
use Rattle.zone_text.proofs.escapes.next_octet.Goals as goal

pub returns-in_ok-push-in-Two-clause-gives : goal.returns-in_ok-push-in-Two-clause-gives
returns-in_ok-push-in-Two-clause-gives c = λ text. two_push _ _ text _ c.in-Two.value c.args.octet c.in-Some.whole (ap behind_view c.in-Two.is) (sym c.last_digit.ensures ∙ c.in-Some.is) c.in_ok-push-in-Two.ensures.items
