use Rattle.std.proofs.Common.{◌≡◌, ◌-◌, ℕ, ◌∙◌, sym, ap, arith, drop}
use Rattle.dns_name.specs.SortKeys.{weight}
use Rattle.dns_name.proofs.SortKeyLemmas.{weight-room, weight-grows, weight-step, weight-end}
use Rattle.dns_name.proofs.sort_key.weight.Goals as goal

pub overflow_mul-front : goal.overflow_mul-front
overflow_mul-front c = omega (arith, weight-room c.loop-at.at c.loop-at.front c.loop-at-test.true c.loop-at.invariant.small)

pub overflow_add-front : goal.overflow_add-front
overflow_add-front c = omega (arith, weight-room c.loop-at.at c.loop-at.front c.loop-at-test.true c.loop-at.invariant.small, c.digit_at.ensures.small)

pub loop-at-preserved : goal.loop-at-preserved
loop-at-preserved c = record {
  left = sym (weight-step c.loop-at.front c.loop-at.at c.digit_at.result c.args.octets.now c.loop-at-test.true c.digit_at.ensures.here c.digit_at.ensures.past) ∙ c.loop-at.invariant.left;
  small = omega (arith, weight-grows c.loop-at.at c.loop-at.front c.digit_at.result c.loop-at.invariant.small c.digit_at.ensures.small);
}

pub returns : goal.returns
returns c =
    let done : c.loop-at.at ≡ 7 = omega arith in
    sym (weight-end c.loop-at.front (drop c.loop-at.at c.args.octets.now)) ∙ ap (λ (k : ℕ). weight (7 - k) c.loop-at.front (drop c.loop-at.at c.args.octets.now)) (sym done) ∙ c.loop-at.invariant.left
