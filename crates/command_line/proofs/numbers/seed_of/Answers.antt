use Rattle.std.proofs.Common.{rules, tests, arith, ◌≡◌, length}
use Rattle.zone_text.proofs.NumberLemmas.{too_great_at}
use Rattle.command_line.proofs.SeedLemmas.{not_digit_at}
use Rattle.command_line.proofs.numbers.seed_of.Goals as goal

pub returns-then-not-is_ascii_digit : goal.returns-then-not-is_ascii_digit
returns-then-not-is_ascii_digit c =
    let some : length c.args.value.now ≡ 0 → ⊥ = search rules in
    not_digit_at 18446744073709551615 c.loop-octet.seed c.args.value.now c.loop-octet.octet-index some c.loop-octet-test.true c.loop-octet.invariant (let k = c.if-not-is_ascii_digit.ensures.value in search (rules, tests))

pub returns-then-seed-digit : goal.returns-then-seed-digit
returns-then-seed-digit c =
    let some : length c.args.value.now ≡ 0 → ⊥ = search rules in
    too_great_at 18446744073709551615 c.loop-octet.seed c.args.value.now c.loop-octet.octet-index some c.loop-octet-test.true c.loop-octet.invariant (let k = c.if-not-is_ascii_digit.ensures.value in search (rules, tests))
    (omega (arith, c.from-digit.ensures, c.if-seed-digit.true))
