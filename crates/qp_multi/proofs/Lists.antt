-- Lists: what holds of each element, and counts.
use Rattle.std.proofs.Common.{◌≡◌, ◌⊎◌, ◌∙◌, ⊎_elim, inl, inr, ℕ, ◌+◌, ◌||◌, Bool, true, false, cond, List, [], ◌∷◌, map, count_by, refl, sym, ap, subst, arith}
use Rattle.std.specs.List.{Contains, list_all, list_any, flat_map}
use Rattle.std.proofs.lemmas.List.Folds.{list_all-append}
use Rattle.std.proofs.lemmas.List.Elements.{Contains-append_cases}
use Rattle.std.proofs.lemmas.List.Sums.{sum_by-cons}
use Rattle.pin_core.proofs.Lists.{contains_cases, contains_later}
use Rattle.trie_model.proofs.ExtentLaws.{both_true, first_true, second_true}

pub either_true : (a b : Bool) → (a ≡ true) ⊎ (b ≡ true) → (a || b) ≡ true
either_true true b h = refl
either_true false b (inl h) = absurd cc
either_true false b (inr h) = h

-- the first element
first_is : {B : Type 0} (x y : B) (ys : List B) → y ≡ x → Contains (y ∷ ys) x
first_is x y ys e = (0, omega arith, e)

module _ {A : Type 0} where
  -- an element is the first one, or a later one
  pub contains_first : (x : A) (xs : List A) → Contains (x ∷ xs) x
  contains_first x xs = (0, omega arith, refl)

  pub all_of : (p : A → Bool) (xs : List A) (x : A) → list_all p xs ≡ true → Contains xs x → p x ≡ true
  all_of p [] x h c = absurd (let l = c.1 in omega arith)
  all_of p (y ∷ ys) x h c = ⊎_elim
      (λ (e : y ≡ x). subst (λ (z : A). p z ≡ true) e (first_true (p y) (list_all p ys) h))
      (λ (d : Contains ys x). all_of p ys x (second_true (p y) (list_all p ys) h) d) (contains_cases y x ys c)

  pub all_from : (p : A → Bool) (xs : List A) → ((x : A) → Contains xs x → p x ≡ true) → list_all p xs ≡ true
  all_from p [] h = refl
  all_from p (y ∷ ys) h = both_true (p y) (list_all p ys) (h y (contains_first y ys)) (all_from p ys (λ x c. h x (contains_later y x ys c)))

  -- of all lists of some elements
  pub all_flat : {B : Type 0} (p : B → Bool) (f : A → List B) (xs : List A) (x : A) → list_all p (flat_map f xs) ≡ true → Contains xs x → list_all p (f x) ≡ true
  all_flat p f [] x h c = absurd (let l = c.1 in omega arith)
  all_flat p f (y ∷ ys) x h c =
      let parts = sym (list_all-append p (f y) (flat_map f ys)) ∙ h in
      ⊎_elim (λ (e : y ≡ x). subst (λ (z : A). list_all p (f z) ≡ true) e (first_true (list_all p (f y)) (list_all p (flat_map f ys)) parts))
      (λ (d : Contains ys x). all_flat p f ys x (second_true (list_all p (f y)) (list_all p (flat_map f ys)) parts) d) (contains_cases y x ys c)

  pub all_from_flat : {B : Type 0} (p : B → Bool) (f : A → List B) (xs : List A) → ((x : A) → Contains xs x → list_all p (f x) ≡ true) → list_all p (flat_map f xs) ≡ true
  all_from_flat p f [] h = refl
  all_from_flat p f (y ∷ ys) h =
      list_all-append p (f y) (flat_map f ys)
      ∙ both_true (list_all p (f y)) (list_all p (flat_map f ys)) (h y (contains_first y ys)) (all_from_flat p f ys (λ x c. h x (contains_later y x ys c)))

  -- none passes, so none counts
  pub none_counts : (p : A → Bool) (xs : List A) → ((x : A) → Contains xs x → p x ≡ false) → count_by p xs ≡ 0
  none_counts p [] h = refl
  none_counts p (y ∷ ys) h =
      let here : ◌≡◌ {A = ℕ} (cond (p y) 1 0) 0 = ap (λ (b : Bool). cond {A = ℕ} b 1 0) (h y (contains_first y ys)) in
      let more = none_counts p ys (λ x c. h x (contains_later y x ys c)) in
      sum_by-cons (λ x. cond (p x) 1 0) y ys ∙ omega arith

  pub count_map : {B : Type 0} (p : B → Bool) (f : A → B) (xs : List A) → count_by p (map f xs) ≡ count_by (λ x. p (f x)) xs
  count_map p f [] = refl
  count_map p f (y ∷ ys) =
      let more = count_map p f ys in
      sum_by-cons (λ x. cond (p x) 1 0) (f y) (map f ys) ∙ ap (λ (n : ℕ). cond (p (f y)) 1 0 + n) more ∙ sym (sum_by-cons (λ x. cond (p (f x)) 1 0) y ys)

  pub any_from : (p : A → Bool) (xs : List A) (x : A) → Contains xs x → p x ≡ true → list_any p xs ≡ true
  any_from p [] x c h = absurd (let l = c.1 in omega arith)
  any_from p (y ∷ ys) x c h = ⊎_elim
      (λ (e : y ≡ x). either_true (p y) (list_any p ys) (inl (ap p e ∙ h)))
      (λ (d : Contains ys x). either_true (p y) (list_any p ys) (inr (any_from p ys x d h))) (contains_cases y x ys c)

  pub in_map : {B : Type 0} (f : A → B) (xs : List A) (x : A) → Contains xs x → Contains (map f xs) (f x)
  in_map {B} f [] x c = absurd (let l = c.1 in omega arith)
  in_map {B} f (y ∷ ys) x c = ⊎_elim
      (λ (e : y ≡ x). first_is (f x) (f y) (map f ys) (ap f e))
      (λ (d : Contains ys x). contains_later (f y) (f x) (map f ys) (in_map f ys x d)) (contains_cases y x ys c)

  pub of_map : {B : Type 0} (f : A → B) (xs : List A) (z : B) → Contains (map f xs) z → (x : A) × Contains xs x × (f x ≡ z)
  of_map {B} f [] z c = absurd (let l = c.1 in omega arith)
  of_map {B} f (y ∷ ys) z c = ⊎_elim
      (λ (e : f y ≡ z). (y, contains_first y ys, e))
      (λ (d : Contains (map f ys) z). let r = of_map f ys z d in (r.0, contains_later y r.0 ys r.1, r.2)) (contains_cases (f y) z (map f ys) c)

-- an element of one of some lists
pub in_flat : {A B : Type 0} (f : A → List B) (xs : List A) (z : B) → Contains (flat_map f xs) z → (x : A) × Contains xs x × Contains (f x) z
in_flat f [] z c = absurd (let l = c.1 in omega arith)
in_flat {A} {B} f (y ∷ ys) z c = ⊎_elim
    (λ (a : Contains (f y) z). (y, contains_first y ys, a))
    (λ (b : Contains (flat_map f ys) z). let r = in_flat f ys z b in (r.0, contains_later y r.0 ys r.1, r.2)) (Contains-append_cases (f y) (flat_map f ys) z c)
