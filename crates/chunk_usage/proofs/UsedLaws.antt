-- Chunks with cells that count.
use Rattle.std.proofs.Common.{◌≡◌, ℕ, zero, suc, ◌+◌, ◌<◌, ◌≤◌, nat_lt, Bool, true, false, not, List, [], ◌∷◌, cond, length, slice_index, slice_index_or, refl, sym, arith}
use Rattle.std.specs.Prelude.{count_by}
use Rattle.std.proofs.lemmas.Bool.{true≢false}
use Rattle.std.proofs.lemmas.Bool.Decides.{nat_tests}
use Rattle.std.proofs.lemmas.List.Sums.{sum_by-cons}

some_of : (x : ℕ) → nat_lt 0 x ≡ true → 0 < x
some_of x h = grind (arith, nat_tests, h)

-- a chunk with a cell that counts is given, so it is one or the other
one_of : (w g : Bool) → (w ≡ true → g ≡ true) → cond w 1 0 + cond (not g) 1 0 ≤ 1
one_of true true h = omega arith
one_of true false h = absurd (true≢false (sym (h refl)))
one_of false true h = omega arith
one_of false false h = omega arith

passes : (w : Bool) → 1 ≤ cond w 1 0 → w ≡ true
passes true h = refl
passes false h = absurd (omega arith)

-- the chunks with a cell that counts, and those that are free, are no more than all
no_more : (live : List ℕ) (given : List Bool) → length live ≡ length given → ((k : ℕ) → 0 < slice_index live k → slice_index_or given k false ≡ true)
    → count_by (nat_lt 0) live + count_by not given ≤ length given
no_more [] [] same h = omega arith
no_more [] (g ∷ given) same h = absurd (omega arith)
no_more (x ∷ live) [] same h = absurd (omega arith)
no_more (x ∷ live) (g ∷ given) same h =
    let here = one_of (nat_lt 0 x) g (λ t. h 0 (some_of x t)) in
    let rest = no_more live given (omega arith) (λ k. h (suc k)) in
    let c = sum_by-cons (λ (y : ℕ). cond (nat_lt 0 y) 1 0) x live in
    let d = sum_by-cons (λ (y : Bool). cond (not y) 1 0) g given in
    omega arith

-- where they are all, each given chunk has a cell that counts
pub given_used : (live : List ℕ) (given : List Bool) → length live ≡ length given → ((k : ℕ) → 0 < slice_index live k → slice_index_or given k false ≡ true)
    → count_by (nat_lt 0) live + count_by not given ≡ length given → (k : ℕ) → slice_index_or given k false ≡ true → 0 < slice_index live k
given_used [] [] same h all k t = absurd (true≢false (sym t))
given_used [] (g ∷ given) same h all k t = absurd (omega arith)
given_used (x ∷ live) [] same h all k t = absurd (omega arith)
given_used (x ∷ live) (true ∷ given) same h all zero t =
    let rest = no_more live given (omega arith) (λ k. h (suc k)) in
    let c = sum_by-cons (λ (y : ℕ). cond (nat_lt 0 y) 1 0) x live in
    let d = sum_by-cons (λ (y : Bool). cond (not y) 1 0) true given in
    some_of x (passes (nat_lt 0 x) (omega arith))
given_used (x ∷ live) (false ∷ given) same h all zero t = absurd (true≢false (sym t))
given_used (x ∷ live) (g ∷ given) same h all (suc k) t =
    let here = one_of (nat_lt 0 x) g (λ t. h 0 (some_of x t)) in
    let rest = no_more live given (omega arith) (λ k. h (suc k)) in
    let c = sum_by-cons (λ (y : ℕ). cond (nat_lt 0 y) 1 0) x live in
    let d = sum_by-cons (λ (y : Bool). cond (not y) 1 0) g given in
    given_used live given (omega arith) (λ k. h (suc k)) (omega arith) k t
