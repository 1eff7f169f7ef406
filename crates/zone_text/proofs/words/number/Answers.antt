use Rattle.std.proofs.Common.{rules, tests, arith, ◌≡◌, length}
use Rattle.zone_text.proofs.NumberLemmas.{too_great_at}
use Rattle.zone_text.proofs.words.number.Goals as goal

pub returns-then-value-from-clause-value : goal.returns-then-value-from-clause-value
returns-then-value-from-clause-value c =
    let some : length c.args.text.now ≡ 0 → ⊥ = search rules in
    too_great_at c.args.most c.loop-digit.value c.args.text.now c.loop-digit.digit-index some c.loop-digit-test.true c.loop-digit.invariant.goes_on (let k = c.if-not-is_ascii_digit.ensures.value in search (rules, tests)) (omega arith)
