use Rattle.std.proofs.Common.{ℕ, List, subst, arith, refl}
use Rattle.zone_model.specs.Names.{IsLabel}
use Rattle.dns_name.specs.Spelling.{HasLabelOf, BeginsWithLabel}
use Rattle.dns_name.proofs.PieceLemmas.{rest_is}
use Rattle.dns_name.proofs.ScanLemmas.{scanned_more, scanned_found, scanned_stuck, scanned_end}
use Rattle.dns_name.proofs.scan.wire_len.Goals as goal

pub returns-then-bytes-at-eq0-clause-found : goal.returns-then-bytes-at-eq0-clause-found
returns-then-bytes-at-eq0-clause-found c = scanned_found c.args.bytes.now c.loop-at.at c.loop-at.invariant c.loop-at-test.true c.if-at-lt255.true c.if-bytes-at-eq0.true

pub returns-in_err-at-clause-none : goal.returns-in_err-at-clause-none
returns-in_err-at-clause-none c = λ e.
    scanned_stuck c.args.bytes.now c.loop-at.at c.loop-at.invariant c.if-bytes-at-eq0.false
    (subst (λ (b : List ℕ). (label : List ℕ) → IsLabel label → BeginsWithLabel b label → ⊥) (rest_is c.args.bytes.now c.loop-at.at) (c.in_err-at.ensures.none refl))

pub loop-at-preserved : goal.loop-at-preserved
loop-at-preserved c =
    scanned_more c.args.bytes.now c.loop-at.at c.in_ok-at.field-0 c.loop-at.invariant c.loop-at-test.true c.if-bytes-at-eq0.false
    (subst (λ (b : List ℕ). HasLabelOf b c.in_ok-at.field-0) (rest_is c.args.bytes.now c.loop-at.at) c.in_ok-at.ensures.found)

pub returns-else-at-lt255-clause-none : goal.returns-else-at-lt255-clause-none
returns-else-at-lt255-clause-none c = λ e. scanned_end c.args.bytes.now c.loop-at.at c.loop-at.invariant (λ h. c.if-at-lt255.false)

pub returns-after-loop-at-clause-none : goal.returns-after-loop-at-clause-none
returns-after-loop-at-clause-none c = λ e. scanned_end c.args.bytes.now c.loop-at.at c.loop-at.invariant (λ h. omega (arith, c.loop-at-test.false))
