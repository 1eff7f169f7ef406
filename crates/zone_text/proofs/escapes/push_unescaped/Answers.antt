use Rattle.zone_text.specs.Escapes.{behind_view}
use Rattle.zone_text.proofs.EscapeLemmas.{unescape_on, unescape_bad, unescape_open}
use Rattle.zone_text.proofs.escapes.push_unescaped.Goals as goal

pub returns-in-None : goal.returns-in-None
returns-in-None c = unescape_bad _ c.loop-octet.out.items c.next_octet.new.out.items c.args.text.now c.loop-octet.octet-index (behind_view c.loop-octet.behind) c.in_ok-next.field-0 c.loop-octet-test.true c.in-None.is c.loop-octet.invariant.goes_on c.in_ok-next.ensures.gives

pub loop-octet-preserved : goal.loop-octet-preserved
loop-octet-preserved c = record {
  small = rw c.in-Some.is at c.in_ok-next.ensures.small;
  goes_on = unescape_on _ c.loop-octet.out.items c.next_octet.new.out.items c.args.text.now c.loop-octet.octet-index (behind_view c.loop-octet.behind) c.in_ok-next.field-0 c.in-Some.next c.loop-octet-test.true c.in-Some.is c.loop-octet.invariant.goes_on c.in_ok-next.ensures.gives;
}

pub returns-in_default : goal.returns-in_default
returns-in_default c = unescape_open _ _ c.args.text.now c.loop-octet.octet-index c.loop-octet.behind c.loop-octet-test.false c.in_default.not-Plain c.loop-octet.invariant.goes_on
