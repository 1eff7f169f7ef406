-- Lists by their places.
use Rattle.std.proofs.Common.{◌≡◌, ◌⊎◌, inl, inr, ℕ, zero, suc, ◌+◌, ◌<◌, List, [], ◌∷◌, ◌++◌, length, map, take, drop, set, get_or, Some, arith, refl, sym, ap, ◌∙◌, subst, append_assoc, length-append, take-append-drop}
use Rattle.std.specs.Option.{option_map}
use Rattle.std.specs.List.{All, AllByRecursion, Contains, range_with_len, slice_get}
use Rattle.std.proofs.lemmas.List.{take_more, length-map, get_or_append_left}
use Rattle.std.proofs.lemmas.List.Elements.{All-get_or}
use Rattle.std.proofs.lemmas.List.FromFn.{length-range_with_len, get_or-range_with_len}
use Rattle.std.proofs.lemmas.List.{map-append}
use Rattle.std.proofs.lemmas.Option.{slice_get_read, slice_get_within, slice_get-map, slice_get-get_or, get_or_from_slice_get}
pub use Rattle.std.proofs.lemmas.List.{nil_from_length as none_left}
pub use Rattle.std.proofs.lemmas.Option.{same_Some as some_is}
pub use Rattle.qp_multi.proofs.AttemptLaws.{if_ok}
use Rattle.pin_core.proofs.Lists.{contains_cases}

module _ {A : Type 0} where
  pub all_front : (P : A → Type 0) (xs ys : List A) → All P (xs ++ ys) → All P xs
  all_front P xs ys all k d lt = subst P (get_or_append_left xs ys d k lt) (all k d (let n = length-append xs ys in omega arith))

  pub contains_at : (xs : List A) (k : ℕ) (x : A) → slice_get xs k ≡ Some x → Contains xs x
  contains_at xs k x is = (k, slice_get_within xs k x is, get_or_from_slice_get xs k x x is)

  pub place_in : (xs : List A) (x : A) → Contains xs x → (k : ℕ) × (k < length xs) × (slice_get xs k ≡ Some x)
  place_in xs x c = (c.0, c.1, slice_get_read xs (length xs) c.0 x refl c.1 (sym c.2))

  pub each_in : (P : A → Type 0) (xs : List A) → AllByRecursion P xs → (x : A) → Contains xs x → P x
  each_in P [] all x c = absurd (let l = c.1 in omega arith)
  each_in P (y ∷ ys) all x c = elim (contains_cases y x ys c) [ inl e ↦ subst P e all.0 | inr d ↦ each_in P ys all.1 x d ]

  -- what an index read
  pub read_at : (xs : List A) (k : ℕ) (x : A) → k < length xs → x ≡ get_or xs k x → slice_get xs k ≡ Some x
  read_at xs k x l is = slice_get_read xs (length xs) k x refl l is

  pub all_at : (P : A → Type 0) (xs : List A) (k : ℕ) (x : A) → All P xs → slice_get xs k ≡ Some x → P x
  all_at P xs k x all is = subst P (get_or_from_slice_get xs k x x is) (All-get_or P xs k x (slice_get_within xs k x is) all)

  pub mapped_at : {B : Type 0} (f : A → B) (xs : List A) (k : ℕ) (x : A) → slice_get xs k ≡ Some x → slice_get (map f xs) k ≡ Some (f x)
  mapped_at f xs k x is = slice_get-map f xs k ∙ ap (option_map f) is

  -- elements that are numbered from 1 on
  pub numbered_at : (f : A → ℕ) (xs : List A) (n k : ℕ) (x : A) → map f xs ≡ range_with_len 1 n → k < n → slice_get xs k ≡ Some x → f x ≡ k + 1
  numbered_at f xs n k x all l is =
      let there : slice_get (range_with_len 1 n) k ≡ Some (get_or (range_with_len 1 n) k 0) = slice_get-get_or (range_with_len 1 n) k 0 (let m = length-range_with_len 1 n in omega arith) in
      let number = get_or-range_with_len 1 n k 0 l in
      let same : Some (f x) ≡ Some (get_or (range_with_len 1 n) k 0) = sym (mapped_at f xs k x is) ∙ ap (λ (ns : List ℕ). slice_get ns k) all ∙ there in
      let is_it : f x ≡ get_or (range_with_len 1 n) k 0 = cc in omega arith

  -- one more is told of
  pub told_more : {B C : Type 0} (f : B → C) (g : A → C) (ys : List B) (xs : List A) (k : ℕ) (y : B) (x : A) → map f ys ≡ take k (map g xs) → slice_get xs k ≡ Some x → f y ≡ g x → map f (ys ++ y ∷ []) ≡ take (k + 1) (map g xs)
  told_more {B = B} {C = C} f g ys xs k y x told is same =
      let there = mapped_at g xs k x is in
      let read = get_or_from_slice_get (map g xs) k (g x) (g x) there in
      map-append f ys (y ∷ []) ∙ ap (λ (l : List C). l ++ f y ∷ []) told ∙ ap (λ (z : C). take k (map g xs) ++ z ∷ []) (same ∙ sym read)
      ∙ sym (take_more (map g xs) k (g x) (slice_get_within (map g xs) k (g x) there))

  -- a list that was cut behind an element
  pub cut_behind : (all front : List A) (x : A) (m : ℕ) → front ++ x ∷ [] ≡ take m all → (rest : List A) × (all ≡ front ++ (x ∷ rest))
  cut_behind all front x m is = (drop m all, sym (take-append-drop m all) ∙ ap (λ (l : List A). l ++ drop m all) (sym is) ∙ append_assoc front (x ∷ []) (drop m all))

  pub at_seam : (front : List A) (x : A) (rest : List A) → slice_get (front ++ (x ∷ rest)) (length front) ≡ Some x
  at_seam [] x rest = refl
  at_seam (y ∷ front) x rest = at_seam front x rest

  pub get_front : (front back : List A) (k : ℕ) (x : A) → slice_get front k ≡ Some x → slice_get (front ++ back) k ≡ Some x
  get_front [] back k x is = absurd cc
  get_front (y ∷ front) back zero x is = is
  get_front (y ∷ front) back (suc k) x is = get_front front back k x is

  pub get_in : (xs : List A) (k : ℕ) → k < length xs → (x : A) × (slice_get xs k ≡ Some x)
  get_in [] k l = absurd (omega arith)
  get_in (x ∷ xs) zero l = (x, refl)
  get_in (x ∷ xs) (suc k) l = get_in xs k (omega arith)

  -- the last one, or one before it
  pub last_or_before : (front : List A) (y x : A) (k : ℕ) → slice_get (front ++ y ∷ []) k ≡ Some x → ((k < length front) × (slice_get front k ≡ Some x)) ⊎ ((k ≡ length front) × (y ≡ x))
  last_or_before [] y x zero is = inr (refl, some_is y x is)
  last_or_before [] y x (suc k) is = absurd cc
  last_or_before (z ∷ front) y x zero is = inl (omega arith, is)
  last_or_before (z ∷ front) y x (suc k) is = elim (last_or_before front y x k is) [ inl l ↦ inl ((let m = l.0 in omega arith), l.1) | inr r ↦ inr (ap suc r.0, r.1) ]

  -- one element was exchanged
  pub get_set : (xs : List A) (k : ℕ) (y : A) → k < length xs → slice_get (set xs k y) k ≡ Some y
  get_set [] k y l = absurd (omega arith)
  get_set (x ∷ xs) zero y l = refl
  get_set (x ∷ xs) (suc k) y l = get_set xs k y (omega arith)

  pub get_set_other : (xs : List A) (k j : ℕ) (y : A) → (j ≡ k → ⊥) → slice_get (set xs k y) j ≡ slice_get xs j
  get_set_other [] k j y other = refl
  get_set_other (x ∷ xs) zero zero y other = absurd (other refl)
  get_set_other (x ∷ xs) zero (suc j) y other = refl
  get_set_other (x ∷ xs) (suc k) zero y other = refl
  get_set_other (x ∷ xs) (suc k) (suc j) y other = get_set_other xs k j y (λ e. other (ap suc e))

module _ {A B : Type 0} where
  -- two lists that are numbered alike
  pub alike_at : (f : A → ℕ) (g : B → ℕ) (xs : List A) (ys : List B) (k : ℕ) (x : A) (y : B) → map f xs ≡ map g ys → slice_get xs k ≡ Some x → slice_get ys k ≡ Some y → f x ≡ g y
  alike_at f g xs ys k x y all ix iy = some_is (f x) (g y) (sym (mapped_at f xs k x ix) ∙ ap (λ (ns : List ℕ). slice_get ns k) all ∙ mapped_at g ys k y iy)

  pub alike_length : (f : A → ℕ) (g : B → ℕ) (xs : List A) (ys : List B) → map f xs ≡ map g ys → length xs ≡ length ys
  alike_length f g xs ys all = sym (length-map xs f) ∙ ap length all ∙ length-map ys g
