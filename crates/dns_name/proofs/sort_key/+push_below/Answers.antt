use Rattle.std.proofs.Common.{Bool, subst}
use Rattle.dns_name.specs.SortKeys.{PushesBelow}
use Rattle.dns_name.proofs.BelowLemmas.{below_here, beside, below_more}
use Rattle.dns_name.proofs.sort_key.+push_below.Goals as goal

pub returns-then-bytes-top : goal.returns-then-bytes-top
returns-then-bytes-top t c = λ x y hx hy. below_here c.args.bytes.now c.args.top.now x y c.args.out.now.items c.eq.result hx hy c.if-bytes-top.true c.eq.ensures

pub returns-then-not-branch : goal.returns-then-not-branch
returns-then-not-branch t c = λ x y hx hy.
    beside c.args.bytes.now c.args.top.now x y (c.in-Some.label, c.in-Some.rest) c.args.out.now.items c.push_below.new.out.items hx hy c.if-bytes-top.false (c.in-Some.ensures x hx)
    (λ ls hl. subst (λ (b : Bool). PushesBelow b ls y c.args.out.now.items c.push_below.new.out.items) c.if-not-branch.true (c.in_ok-push_below.ensures ls y hl hy))

pub returns : goal.returns
returns t c = λ x y hx hy.
    below_more c.args.bytes.now x y (c.in-Some.label, c.in-Some.rest) c.args.out.now.items c.push_below.new.out.items c.push_label.new.out.items hx (c.in-Some.ensures x hx)
    (λ ls hl. subst (λ (b : Bool). PushesBelow b ls y c.args.out.now.items c.push_below.new.out.items) c.if-not-branch.false (c.in_ok-push_below.ensures ls y hl hy))
    c.in_ok-push_label.ensures
