use Rattle.std.proofs.Common.{◌≤◌, ◌<◌, length, arith, ◌∙◌}
use Rattle.dns_name.proofs.UnderLemmas.{passed_more, passed_none, passed_end}
use Rattle.dns_name.proofs.wire.under.Goals as goal

pub returns-in_default : goal.returns-in_default
returns-in_default c = λ x y hx hy.
    let longer : length c.args.b.now < length c.loop-rest.rest.now = omega arith in
    passed_none c.args.a.now c.loop-rest.rest.now c.args.b.now c.loop-rest.invariant y hy longer (c.in_default.ensures _ c.loop-rest.invariant.is_left)

pub loop-rest-preserved : goal.loop-rest-preserved
loop-rest-preserved c =
    let longer : length c.args.b.now < length c.loop-rest.rest.now = omega arith in
    passed_more c.args.a.now c.loop-rest.rest.now c.args.b.now (c.in-Some.field-0-0, c.in-Some.after) c.loop-rest.invariant longer (c.in-Some.ensures _ c.loop-rest.invariant.is_left)

pub returns : goal.returns
returns c = λ x y hx hy.
    let within : length c.loop-rest.rest.now ≤ length c.args.b.now = omega arith in
    c.eq.ensures ∙ passed_end c.args.a.now c.loop-rest.rest.now c.args.b.now c.loop-rest.invariant within x y hx hy
