-- Numbers among others, and lists of which some elements stay.
use Rattle.std.proofs.Common.{◌≡◌, ◌∙◌, ⊎_elim, ℕ, ◌==◌, Bool, true, false, true≢false, cond, ◌||◌, List, [], ◌∷◌, refl, sym, ap, arith, eq-eqb}
use Rattle.std.specs.List.{Contains, filter}
use Rattle.std.proofs.lemmas.Bool.Decides.{eqb_tells}
use Rattle.chunk_usage.specs.Keeping.{is_among}
use Rattle.pin_core.proofs.Lists.{contains_cases, contains_later}
use Rattle.qp_multi.proofs.Lists.{contains_first}

-- filters

module _ {A : Type 0} where
  pub filter_same : (p q : A → Bool) (xs : List A) → ((x : A) → Contains xs x → p x ≡ q x) → filter p xs ≡ filter q xs
  filter_same p q [] h = refl
  filter_same p q (x ∷ xs) h =
      let rest = filter_same p q xs (λ y c. h y (contains_later x y xs c)) in
      ap (λ (ys : List A). cond (p x) (x ∷ ys) ys) rest ∙ ap (λ (b : Bool). cond b (x ∷ filter q xs) (filter q xs)) (h x (contains_first x xs))

-- among numbers

pub among_of : (numbers : List ℕ) (v : ℕ) → Contains numbers v → is_among numbers v ≡ true
among_of [] v c = absurd (let l = c.1 in omega arith)
among_of (n ∷ numbers) v c = ⊎_elim
    (λ (e : n ≡ v). ap (λ (b : Bool). b || is_among numbers v) (eq-eqb n v e))
    (λ (d : Contains numbers v). later (n == v) (among_of numbers v d)) (contains_cases n v numbers c)
  where
    later : (b : Bool) → is_among numbers v ≡ true → (b || is_among numbers v) ≡ true
    later true h = refl
    later false h = h

pub of_among : (numbers : List ℕ) (v : ℕ) → is_among numbers v ≡ true → Contains numbers v
of_among [] v h = absurd (true≢false (sym h))
of_among (n ∷ numbers) v h = go (n == v) refl h (λ k. of_among numbers v k)
  where
    go : (b : Bool) → (n == v) ≡ b → (b || is_among numbers v) ≡ true → (is_among numbers v ≡ true → Contains numbers v) → Contains (n ∷ numbers) v
    go true e h more = (0, omega arith, (let s : n ≡ v = grind (arith, eqb_tells n v) in s))
    go false e h more = contains_later n v numbers (more h)
