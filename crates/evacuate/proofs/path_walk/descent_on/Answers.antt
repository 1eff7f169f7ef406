use Rattle.std.proofs.Common.{◌≡◌, ℕ, ◌+◌, ◌/◌, ◌%◌, ◌^◌, ◌<◌, ◌≤◌, count_ones, arith, inl, inr, refl, sym, ◌∙◌, ap}
use Rattle.std.proofs.lemmas.Bool.{cases_lt}
use Rattle.std.proofs.lemmas.Nat.{div-add-mod', ones_cat, pow_pos, zero_from_ones}
use Rattle.std.specs.Int.{bit_at}
use Rattle.evacuate.proofs.path_walk.descent_on.Goals as goal

-- what isn't 0 has a bit that is set
some_bit : (n : ℕ) → n % 2 ≡ 1 → 1 ≤ count_ones n
some_bit n odd = elim (cases_lt 0 (count_ones n)) [
  | inl l ↦ omega arith
  | inr l ↦ (let none : count_ones n ≡ 0 = omega arith in let z = zero_from_ones n none in absurd (omega arith))
]

-- a bit that is set counts beside those below it
bit_counts : (b p : ℕ) → bit_at b p ≡ 1 → count_ones (b % 2 ^ p) + 1 ≤ count_ones b
bit_counts b p odd =
    let below : b % 2 ^ p < 2 ^ p = let l = pow_pos p in omega arith in
    let parts : count_ones b ≡ count_ones (b / 2 ^ p) + count_ones (b % 2 ^ p) = ap count_ones (sym (div-add-mod' b (2 ^ p))) ∙ ones_cat p (b / 2 ^ p) (b % 2 ^ p) below in
    let some = some_bit (b / 2 ^ p) odd in omega arith

pub returns-clause-index : goal.returns-clause-index
returns-clause-index c =
    let set : bit_at c.in-Branch.branch.bitmap c.in_ok-position.position ≡ 1 = c.if-not-has_twig.ensures.0 refl in
    let i = c.twig_index-index.ensures.by_popcount in
    let more = bit_counts c.in-Branch.branch.bitmap c.in_ok-position.position set in omega arith
