-- Lists: membership, filters, and what a change of one place leaves.
use Rattle.std.proofs.Common.{◌≡◌, ◌≢◌, ◌⊎◌, inl, inr, ⊎_elim, ℕ, zero, suc, ◌<◌, List, [], ◌∷◌, ◌++◌, length, get_or, Bool, true, false, true≢false, cond, refl, sym, ap, ◌∙◌, subst, arith, length-append}
use Rattle.std.specs.Prelude.{◌&&◌, not}
use Rattle.std.specs.List.{All, AllPairs, Contains, filter, list_any}
use Rattle.std.proofs.lemmas.List.Folds.{list_any_at}
use Rattle.std.proofs.Math.ListN.{get_or-append}
use Rattle.std.proofs.Math.Seq.{get_or-append_seam}
use Rattle.std.proofs.lemmas.List.Elements.{All-contains, All-contains_itself, All-filter, filter_passes}
use Rattle.std.proofs.lemmas.List.{get_or_default}
use Rattle.std.proofs.lemmas.Bool.{cases_order}
use mathlib.Core.Logic.{dite}
use native.Mathlib.Decide.{ℕ_discrete}

module _ {A : Type 0} where
  pub contains_cases : (y x : A) (xs : List A) → Contains (y ∷ xs) x → (y ≡ x) ⊎ Contains xs x
  contains_cases y x xs h = go h.0 h.1 h.2
    where
      go : (k : ℕ) → k < length (y ∷ xs) → get_or (y ∷ xs) k x ≡ x → (y ≡ x) ⊎ Contains xs x
      go zero l e = inl e
      go (suc k) l e = inr (k, omega arith, e)

  pub contains_later : (y x : A) (xs : List A) → Contains xs x → Contains (y ∷ xs) x
  contains_later y x xs h = (suc h.0, (let l = h.1 in omega arith), h.2)

  later_in : (y x : A) (xs : List A) (b : Bool) → Contains xs x → Contains (cond b (y ∷ xs) xs) x
  later_in y x xs true h = contains_later y x xs h
  later_in y x xs false h = h

  -- a filter keeps what passes
  pub contains_filter : (f : A → Bool) (xs : List A) (x : A) → Contains xs x → f x ≡ true → Contains (filter f xs) x
  contains_filter f [] x h t = absurd (let l = h.1 in omega arith)
  contains_filter f (y ∷ ys) x h t = ⊎_elim
      (λ (e : y ≡ x). subst (λ (b : Bool). Contains (cond b (y ∷ filter f ys) (filter f ys)) x) (sym (ap f e ∙ t)) (0, omega arith, e))
      (λ (g : Contains ys x). later_in y x (filter f ys) (f y) (contains_filter f ys x g t))
      (contains_cases y x ys h)

  -- and nothing else
  pub contains_from_filter : (f : A → Bool) (xs : List A) (x : A) → Contains (filter f xs) x → Contains xs x
  contains_from_filter f xs x h = All-contains (Contains xs) (filter f xs) x (All-filter f (Contains xs) xs (All-contains_itself xs)) h

  pub filter_test : (f : A → Bool) (xs : List A) (x : A) → Contains (filter f xs) x → f x ≡ true
  filter_test f xs x h = All-contains (λ y. f y ≡ true) (filter f xs) x (filter_passes f xs) h

  -- each later element is related to each earlier one, and so is the pushed one
  pub AllPairs-push : (R : A → A → Type 0) (xs : List A) (y : A) → AllPairs R xs → All (λ x. R x y) xs → AllPairs R (xs ++ y ∷ [])
  AllPairs-push R xs y pairs each i j d l within = dite (ℕ_discrete j (length xs))
      (λ (e : j ≡ length xs). subst (λ (x : A). R x (get_or (xs ++ y ∷ []) j d)) (sym (get_or-append xs (y ∷ []) d i (omega arith)))
      (subst (λ (x : A). R (get_or xs i d) x) (sym (ap (λ (k : ℕ). get_or (xs ++ y ∷ []) k d) e ∙ get_or-append_seam xs y [] d)) (each i d (omega arith))))
      (λ (ne : j ≢ length xs). let small : j < length xs = omega (arith, length-append xs (y ∷ [])) in
      subst (λ (x : A). R x (get_or (xs ++ y ∷ []) j d)) (sym (get_or-append xs (y ∷ []) d i (omega arith)))
      (subst (λ (x : A). R (get_or xs i d) x) (sym (get_or-append xs (y ∷ []) d j small)) (pairs i j d l small)))

  -- of two elements, either is before the other or they are the same
  pub pairs_cases : (R : A → A → Type 0) (xs : List A) (x y : A) → AllPairs R xs → Contains xs x → Contains xs y → R x y ⊎ (R y x ⊎ (x ≡ y))
  pairs_cases R xs x y pairs hx hy = dite (ℕ_discrete hx.0 hy.0) same apart
    where
      at_x : (d : A) → get_or xs hx.0 d ≡ x
      at_x d = get_or_default xs hx.0 d x hx.1 ∙ hx.2

      at_y : (d : A) → get_or xs hy.0 d ≡ y
      at_y d = get_or_default xs hy.0 d y hy.1 ∙ hy.2

      same : hx.0 ≡ hy.0 → R x y ⊎ (R y x ⊎ (x ≡ y))
      same e = inr (inr (sym (at_x x) ∙ (ap (λ (k : ℕ). get_or xs k x) e ∙ at_y x)))

      below : (i j : ℕ) (a b : A) → i < j → j < length xs → ((d : A) → get_or xs i d ≡ a) → ((d : A) → get_or xs j d ≡ b) → R a b
      below i j a b l within ea eb = subst (λ (z : A). R z b) (ea a) (subst (λ (z : A). R (get_or xs i a) z) (eb a) (pairs i j a l within))

      apart : hx.0 ≢ hy.0 → R x y ⊎ (R y x ⊎ (x ≡ y))
      apart ne = ⊎_elim (λ (e : hx.0 ≡ hy.0). absurd (ne e)) (⊎_elim
          (λ (l : hx.0 < hy.0). inl (below hx.0 hy.0 x y l hy.1 at_x at_y))
          (λ (l : hy.0 < hx.0). inr (inl (below hy.0 hx.0 y x l hx.1 at_y at_x)))
          ) (cases_order hx.0 hy.0)

  -- no element passes
  pub none_passes : (p : A → Bool) (xs : List A) → list_any p xs ≡ false → All (λ x. p x ≡ false) xs
  none_passes p xs none k d l = go (p (get_or xs k d)) refl
    where
      go : (b : Bool) → p (get_or xs k d) ≡ b → p (get_or xs k d) ≡ false
      go true e = absurd (true≢false (sym (list_any_at p xs k d l e) ∙ none))
      go false e = e

  pub pairs_head : (R : A → A → Type 0) (x : A) (xs : List A) → AllPairs R (x ∷ xs) → All (R x) xs
  pairs_head R x xs pairs k d l = pairs 0 (suc k) d (omega arith) (omega arith)

  pub pairs_tail : (R : A → A → Type 0) (x : A) (xs : List A) → AllPairs R (x ∷ xs) → AllPairs R xs
  pairs_tail R x xs pairs i j d l within = pairs (suc i) (suc j) d (omega arith) (omega arith)

pub and_left : (a b : Bool) → (a && b) ≡ true → a ≡ true
and_left true b e = refl
and_left false b e = e

pub and_right : (a b : Bool) → (a && b) ≡ true → b ≡ true
and_right true b e = e
and_right false b e = absurd (true≢false (sym e))

pub not_true : (b : Bool) → not b ≡ true → b ≡ false
not_true true e = sym e
not_true false e = refl
