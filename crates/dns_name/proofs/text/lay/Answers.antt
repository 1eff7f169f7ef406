use Rattle.std.proofs.Common.{arith}
use Rattle.dns_name.proofs.TextLemmas.{walked_start, refused_empty, refused_bad, refused_long, walked_dot, walked_octet, ended_dot, ended_open, laid_dot, laid_open, pending_small}
use Rattle.dns_name.proofs.text.lay.Goals as goal

pub loop-at-init : goal.loop-at-init
loop-at-init c = walked_start _ _ c.requires

pub returns-then-pending-eq0-clause-measures : goal.returns-then-pending-eq0-clause-measures
returns-then-pending-eq0-clause-measures c = refused_empty _ _ _ _ _ c.loop-at.invariant c.in-Dot.ensures c.if-pending-eq0.true

pub overflow_cast-pending : goal.overflow_cast-pending
overflow_cast-pending c = omega (arith, pending_small _ _ _ _ _ c.loop-at.invariant)

pub overflow_cast-pending-2 : goal.overflow_cast-pending-2
overflow_cast-pending-2 c = omega (arith, pending_small _ _ _ _ _ c.loop-at.invariant)

pub loop-at-preserved-in-Dot : goal.loop-at-preserved-in-Dot
loop-at-preserved-in-Dot c = walked_dot _ _ _ _ _ _ c.loop-at.invariant c.loop-at-test.true c.in-Dot.ensures c.if-pending-eq0.false c.put.ensures

pub returns-then-pending-eq-MOST_LABEL_OCTETS-clause-measures : goal.returns-then-pending-eq-MOST_LABEL_OCTETS-clause-measures
returns-then-pending-eq-MOST_LABEL_OCTETS-clause-measures c = refused_long _ _ _ _ c.in-Octet.octet c.in-Octet.next _ c.loop-at.invariant c.in-Octet.ensures c.if-pending-eq-MOST_LABEL_OCTETS.true

pub loop-at-preserved : goal.loop-at-preserved
loop-at-preserved c = walked_octet _ _ _ _ c.in-Octet.octet c.in-Octet.next _ _ c.loop-at.invariant c.in-Octet.ensures c.if-pending-eq-MOST_LABEL_OCTETS.false c.put-in-Octet.ensures

pub returns-in-Bad-clause-measures : goal.returns-in-Bad-clause-measures
returns-in-Bad-clause-measures c = refused_bad _ _ _ _ _ c.loop-at.invariant c.in-Bad.ensures

pub returns-then-pending-eq0-2-clause-measures : goal.returns-then-pending-eq0-2-clause-measures
returns-then-pending-eq0-2-clause-measures c = ended_dot _ _ _ _ _ c.loop-at.invariant c.loop-at-test.false c.if-pending-eq0-2.true

pub returns-then-pending-eq0-2-clause-laid : goal.returns-then-pending-eq0-2-clause-laid
returns-then-pending-eq0-2-clause-laid c = laid_dot _ _ _ _ _ c.loop-at.invariant c.loop-at-test.false c.if-pending-eq0-2.true

pub returns-clause-measures : goal.returns-clause-measures
returns-clause-measures c = ended_open _ _ _ _ _ c.loop-at.invariant c.loop-at-test.false c.if-pending-eq0-2.false

pub returns-clause-laid : goal.returns-clause-laid
returns-clause-laid c = laid_open _ _ _ _ _ _ c.loop-at.invariant c.loop-at-test.false c.if-pending-eq0-2.false c.put-2.ensures
