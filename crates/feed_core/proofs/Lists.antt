-- Lists of numbers: how often a number stands in one, numbers in order, and lists that rise.
use Rattle.std.proofs.Common.{◌≡◌, ℕ, zero, suc, ◌+◌, ◌<◌, ◌≤◌, cond, eqb, List, [], ◌∷◌, ◌++◌, length, get_or, replicate, refl, ap, ◌∙◌, arith, add-one}
use Rattle.std.specs.List.{All, range_with_len}
use Rattle.std.specs.List.Sorted.{IsStrictlyIncreasing}
use Rattle.std.proofs.lemmas.List.Sums.{sum_by_push, sum_by-append, get_or-le-sum_by}
use Rattle.std.proofs.lemmas.Bool.Decides.{nat_tests}
use Rattle.feed_core.specs.Rule.{times, once_below}

pub times-push : (number x : ℕ) (list : List ℕ) → times number (list ++ x ∷ []) ≡ times number list + cond (eqb x number) 1 0
times-push number x list = sum_by_push (λ y. cond (eqb y number) 1 0) list x

pub times-append : (number : ℕ) (list more : List ℕ) → times number (list ++ more) ≡ times number list + times number more
times-append number list more = sum_by-append (λ y. cond (eqb y number) 1 0) list more

-- an element stands in its list at least once
pub times_at : (list : List ℕ) (i d : ℕ) → i < length list → 1 ≤ times (get_or list i d) list
times_at list i d there =
    let part = get_or-le-sum_by (λ y. cond (eqb y (get_or list i d)) 1 0) list i d there in
    grind (arith, nat_tests)

pub once_below_first : (number : ℕ) → once_below 1 number ≡ 0
once_below_first number = grind (arith, nat_tests)

pub once_below_more : (next number : ℕ) → 0 < next → once_below (next + 1) number ≡ once_below next number + cond (eqb next number) 1 0
once_below_more next number some = grind (arith, nat_tests)

pub once_below_within : (next number : ℕ) → 1 ≤ once_below next number → (0 < number) × (number < next)
once_below_within next number some = (grind (arith, nat_tests), grind (arith, nat_tests))

pub once_below_here : (next number : ℕ) → 0 < number → number < next → once_below next number ≡ 1
once_below_here next number some small = grind (arith, nat_tests)

pub range_more : (first many : ℕ) → range_with_len first (suc many) ≡ range_with_len first many ++ (first + many) ∷ []
range_more first zero = ap (λ n. n ∷ []) (let e : first ≡ first + 0 = omega arith in e)
range_more first (suc many) =
    ap (λ l. first ∷ l)
    (range_more (first + 1) many ∙ ap (λ n. range_with_len (first + 1) many ++ n ∷ []) (let e : (first + 1) + many ≡ first + suc many = omega arith in e))

pub replicate_more : (many x : ℕ) → replicate many x ++ x ∷ [] ≡ replicate (suc many) x
replicate_more zero x = refl
replicate_more (suc many) x = ap (λ l. x ∷ l) (replicate_more many x)

-- a list of numbers from 1 on that rises has no more of them than its bound
rises_past : (list : List ℕ) (bound : ℕ) → IsStrictlyIncreasing list → All (λ number. (0 < number) × (number < bound)) list → (k : ℕ) → k < length list → k < get_or list k 0
rises_past list bound rising within zero there = (within 0 0 there).0
rises_past list bound rising within (suc k) there =
    let before = rises_past list bound rising within k (omega arith) in
    let step = rising k (omega arith) in
    let step' : get_or list k 0 < get_or list (suc k) 0 = rw add-one at step in
    omega arith

pub few_below : (list : List ℕ) (bound : ℕ) → 0 < bound → IsStrictlyIncreasing list → All (λ number. (0 < number) × (number < bound)) list → length list < bound
few_below [] bound some rising within = some
few_below (x ∷ xs) bound some rising within =
    let last = rises_past (x ∷ xs) bound rising within (length xs) (omega arith) in
    let below = (within (length xs) 0 (omega arith)).1 in
    omega arith
