-- Facts and sums over all seats, of which one takes a step. A seat is read by `get_elem?`, as the queue's words have it.
use Rattle.std.proofs.Common.{◌≡◌, ◌≢◌, ℕ, zero, suc, ◌+◌, ◌≤◌, List, [], ◌∷◌, set, ⊎_elim, sym, refl, ap, subst, arith}
use Rattle.std.specs.List.{All, sum_by}
use Rattle.std.proofs.lemmas.List.Elements.{All-nil, All-cons, All-head, All-tail}
use Rattle.std.proofs.lemmas.List.Sums.{sum_by-cons}
use mathlib.Core.Option.{some, some-injective, some-ne-none}
use lib.ListN.{get_elem?}
use Rattle.crossbeam_queue.proofs.Lists.{at_set}

module _ {A : Type 0} where
  pub each : (P : A → Type 0) (l : List A) (i : ℕ) (a : A) → All P l → get_elem? l i ≡ some a → P a
  each P [] i a all at = absurd (some-ne-none a (sym at))
  each P (x ∷ xs) zero a all at = subst P (some-injective x a at) (All-head P x xs all)
  each P (x ∷ xs) (suc i) a all at = each P xs i a (All-tail P x xs all) at

  pub from_each : (P : A → Type 0) (l : List A) → ((i : ℕ) (a : A) → get_elem? l i ≡ some a → P a) → All P l
  from_each P [] h = All-nil P
  from_each P (x ∷ xs) h = All-cons P x xs (h 0 x refl) (from_each P xs (λ i a at. h (suc i) a at))

  -- the step's seat has b, and of the others something follows from what they have
  pub all_set : (P : A → Type 0) (l : List A) (i : ℕ) (b : A) → P b → ((j : ℕ) (u : A) → j ≢ i → get_elem? l j ≡ some u → P u) → All P (set l i b)
  all_set P l i b mine others = from_each P (set l i b) (λ j u at. ⊎_elim (λ (x : (j ≡ i) × (b ≡ u)). subst P x.1 mine) (λ (x : (j ≢ i) × (get_elem? l j ≡ some u)). others j u x.0 x.1) (at_set l i j b u at))

  module _ (f : A → ℕ) where
    pub sum_set : (l : List A) (i : ℕ) (a b : A) → get_elem? l i ≡ some a → sum_by f (set l i b) + f a ≡ sum_by f l + f b
    sum_set [] i a b at = absurd (some-ne-none a (sym at))
    sum_set (x ∷ xs) zero a b at = omega (arith, sum_by-cons f b xs, sum_by-cons f x xs, ap f (some-injective x a at))
    sum_set (x ∷ xs) (suc i) a b at = omega (arith, sum_by-cons f x (set xs i b), sum_by-cons f x xs, sum_set xs i a b at)

    pub part_of_sum : (l : List A) (i : ℕ) (a : A) → get_elem? l i ≡ some a → f a ≤ sum_by f l
    part_of_sum [] i a at = absurd (some-ne-none a (sym at))
    part_of_sum (x ∷ xs) zero a at = omega (arith, sum_by-cons f x xs, ap f (some-injective x a at))
    part_of_sum (x ∷ xs) (suc i) a at = omega (arith, sum_by-cons f x xs, part_of_sum xs i a at)

    pub two_parts_of_sum : (l : List A) (i j : ℕ) (a b : A) → j ≢ i → get_elem? l i ≡ some a → get_elem? l j ≡ some b → f a + f b ≤ sum_by f l
    two_parts_of_sum [] i j a b apart at there = absurd (some-ne-none a (sym at))
    two_parts_of_sum (x ∷ xs) zero zero a b apart at there = absurd (apart refl)
    two_parts_of_sum (x ∷ xs) zero (suc j) a b apart at there = omega (arith, sum_by-cons f x xs, ap f (some-injective x a at), part_of_sum xs j b there)
    two_parts_of_sum (x ∷ xs) (suc i) zero a b apart at there = omega (arith, sum_by-cons f x xs, ap f (some-injective x b there), part_of_sum xs i a at)
    two_parts_of_sum (x ∷ xs) (suc i) (suc j) a b apart at there = omega (arith, sum_by-cons f x xs, two_parts_of_sum xs i j a b (λ e. apart (ap suc e)) at there)

  module _ (f g : A → ℕ) where
    -- where no seat has any of f, and so none has any of g
    pub sum_none : (l : List A) → sum_by f l ≡ 0 → All (λ u. f u ≡ 0 → g u ≡ 0) l → sum_by g l ≡ 0
    sum_none [] none idle = refl
    sum_none (x ∷ xs) none idle =
        let here = All-head (λ u. f u ≡ 0 → g u ≡ 0) x xs idle in
        let rest = sum_none xs (omega (arith, sum_by-cons f x xs)) (All-tail (λ u. f u ≡ 0 → g u ≡ 0) x xs idle) in
        omega (arith, sum_by-cons g x xs, rest, here (omega (arith, sum_by-cons f x xs)))

    -- where one seat has all of f, and so it has all of g
    pub sum_of_one : (l : List A) (i : ℕ) (a : A) → get_elem? l i ≡ some a → sum_by f l ≡ f a → All (λ u. f u ≡ 0 → g u ≡ 0) l → sum_by g l ≡ g a
    sum_of_one [] i a at all idle = absurd (some-ne-none a (sym at))
    sum_of_one (x ∷ xs) zero a at all idle =
        let same = some-injective x a at in
        let rest = sum_none xs (omega (arith, sum_by-cons f x xs, ap f same)) (All-tail (λ u. f u ≡ 0 → g u ≡ 0) x xs idle) in
        omega (arith, sum_by-cons g x xs, rest, ap g same)
    sum_of_one (x ∷ xs) (suc i) a at all idle =
        let part = part_of_sum f xs i a at in
        let none : f x ≡ 0 = omega (arith, sum_by-cons f x xs) in
        let rest = sum_of_one xs i a at (omega (arith, sum_by-cons f x xs)) (All-tail (λ u. f u ≡ 0 → g u ≡ 0) x xs idle) in
        omega (arith, sum_by-cons g x xs, rest, All-head (λ u. f u ≡ 0 → g u ≡ 0) x xs idle none)

    -- where no seat has more of f than of g, one has what all lack
    sum_le : (l : List A) → All (λ u. f u ≤ g u) l → sum_by f l ≤ sum_by g l
    sum_le [] few = omega arith
    sum_le (x ∷ xs) few =
        let here = All-head (λ u. f u ≤ g u) x xs few in
        let rest = sum_le xs (All-tail (λ u. f u ≤ g u) x xs few) in
        omega (arith, sum_by-cons f x xs, sum_by-cons g x xs)

    pub squeezed : (l : List A) (i : ℕ) (a : A) → get_elem? l i ≡ some a → All (λ u. f u ≤ g u) l → sum_by f l + g a ≤ sum_by g l + f a
    squeezed [] i a at few = absurd (some-ne-none a (sym at))
    squeezed (x ∷ xs) zero a at few =
        let same = some-injective x a at in
        let rest = sum_le xs (All-tail (λ u. f u ≤ g u) x xs few) in
        omega (arith, sum_by-cons f x xs, sum_by-cons g x xs, ap f same, ap g same)
    squeezed (x ∷ xs) (suc i) a at few =
        let here = All-head (λ u. f u ≤ g u) x xs few in
        let rest = squeezed xs i a at (All-tail (λ u. f u ≤ g u) x xs few) in
        omega (arith, sum_by-cons f x xs, sum_by-cons g x xs)
