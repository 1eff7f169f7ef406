-- Lists of views, functions that change at one place, and beginnings of one list.
use Rattle.std.proofs.Common.{◌≡◌, ◌≢◌, ◌⊎◌, inl, inr, ⊎_elim, ℕ, zero, suc, ◌+◌, ◌<◌, ◌≤◌, ltb, List, [], ◌∷◌, ◌++◌, length, get_or, set, drop, map, Bool, true, false, cond, refl, sym, ap, ◌∙◌, subst, arith, Option, Some, None, length-set, length-append}
use Rattle.std.specs.List.{range_with_len}
use Rattle.std.proofs.lemmas.List.{append_assoc, append-nil, map-append}
use Rattle.std.proofs.lemmas.List.FromFn.{map-range_with_len_more}
use Rattle.std.proofs.lemmas.Bool.Decides.{nat_tests}
use mathlib.Core.Option.{some, some-injective, some-ne-none}
use native.Mathlib.Decide.{ℕ_discrete}
use lib.ListN.{get_elem?}
use Rattle.atomic_table.proofs.Lists.{at_set}
use Rattle.shared_cells.specs.declared.view.Seen.{Seen}
use Rattle.shared_cells.specs.History.{StartsWith, longer_of, opening_of, nothing_seen, OpeningFits, IsPartOf, longer_seen}

-- a function that is changed at one place

module _ {A : Type 0} where
  abbrev pick : {P : Type 0} → Dec P → A → A → A
  pick (yes _) here there = here
  pick (no _) here there = there

  pub put : (ℕ → A) → ℕ → A → ℕ → A
  put f i x j = pick (ℕ_discrete j i) x (f j)

  pub put_here : (f : ℕ → A) (i : ℕ) (x : A) → put f i x i ≡ x
  unfolding put
  put_here f i x = go (ℕ_discrete i i)
    where
      go : (d : Dec (i ≡ i)) → pick d x (f i) ≡ x
      go (yes _) = refl
      go (no other) = absurd (other refl)

  pub put_else : (f : ℕ → A) (i : ℕ) (x : A) (j : ℕ) → j ≢ i → put f i x j ≡ f j
  unfolding put
  put_else f i x j other = go (ℕ_discrete j i)
    where
      go : (d : Dec (j ≡ i)) → pick d x (f j) ≡ f j
      go (yes same) = absurd (other same)
      go (no _) = refl

-- a list that is changed at one place, or is longer by one

module _ {V : Type 0} where
  pub seats_stay : (P : ℕ → V → Type 0) (views : List V) (me : ℕ) (w : V) → P me w → ((j : ℕ) (u : V) → j ≢ me → get_elem? views j ≡ some u → P j u)
      → (j : ℕ) (u : V) → get_elem? (set views me w) j ≡ some u → P j u
  seats_stay P views me w mine others j u e = ⊎_elim (λ (t : (j ≡ me) × (w ≡ u)). subst (λ (x : ℕ × V). P x.0 x.1) (λ i. (sym t.0 i, t.1 i)) mine)
      (λ (t : (j ≢ me) × (get_elem? views j ≡ some u)). others j u t.0 t.1) (at_set views me j w u e)

  at_longer_list : (xs : List V) (x u : V) (j : ℕ) → get_elem? (xs ++ x ∷ []) j ≡ some u → ((j < length xs) × (get_elem? xs j ≡ some u)) ⊎ ((j ≡ length xs) × (x ≡ u))
  at_longer_list [] x u zero e = inr (refl, some-injective x u e)
  at_longer_list [] x u (suc j) e = absurd (some-ne-none u (sym e))
  at_longer_list (y ∷ xs) x u zero e = inl (omega arith, e)
  at_longer_list (y ∷ xs) x u (suc j) e = ⊎_elim (λ (t : (j < length xs) × (get_elem? xs j ≡ some u)). let k = t.0 in inl (omega arith, t.1)) (λ (t : (j ≡ length xs) × (x ≡ u)). inr (ap suc t.0, t.1)) (at_longer_list xs x u j e)

  -- a new seat stands behind the others
  pub seats_grow : (P : ℕ → V → Type 0) (views : List V) (me : ℕ) (v w : V) → P me v → P (length views) w → ((j : ℕ) (u : V) → j ≢ me → get_elem? views j ≡ some u → P j u)
      → (j : ℕ) (u : V) → get_elem? (set views me v ++ w ∷ []) j ≡ some u → P j u
  seats_grow P views me v w mine new others j u e = ⊎_elim
      (λ (t : (j < length (set views me v)) × (get_elem? (set views me v) j ≡ some u)). seats_stay P views me v mine others j u t.1)
      (λ (t : (j ≡ length (set views me v)) × (w ≡ u)). subst (λ (x : ℕ × V). P x.0 x.1) (λ i. (sym (t.0 ∙ length-set views me v) i, t.1 i)) new)
      (at_longer_list (set views me v) w u j e)

-- beginnings of one list

module _ {A : Type 0} where
  pub begins_itself : (xs : List A) → StartsWith xs xs
  begins_itself xs = ([], sym (append-nil xs))

  pub begins_longer : (xs part : List A) (x : A) → StartsWith xs part → StartsWith (xs ++ x ∷ []) part
  begins_longer xs part x s = (s.0 ++ x ∷ [], ap (λ (l : List A). l ++ x ∷ []) s.1 ∙ append_assoc part s.0 (x ∷ []))

  pub begins_more : (xs part more : List A) → StartsWith xs part → StartsWith (xs ++ more) part
  begins_more xs part more s = (s.0 ++ more, ap (λ (l : List A). l ++ more) s.1 ∙ append_assoc part s.0 more)

  pub begins_length : (all part : List A) → StartsWith all part → length part ≤ length all
  begins_length all part s = let e = ap length s.1 in omega (arith, length-append part s.0)

  -- of two beginnings of one list the shorter begins the longer
  shorter_begins : (xs ys q r : List A) → xs ++ q ≡ ys ++ r → length xs ≤ length ys → StartsWith ys xs
  shorter_begins [] ys q r e l = (ys, refl)
  shorter_begins (x ∷ xs) [] q r e l = absurd (omega arith)
  shorter_begins (x ∷ xs) (y ∷ ys) q r e l =
      let s = shorter_begins xs ys q r (ap (drop 1) e) (omega arith) in
      let same : x ≡ y = ap (λ (zs : List A). get_or zs 0 x) e in
      (s.0, λ i. sym same i ∷ s.1 i)

  begins_begins : (all xs ys : List A) → StartsWith all xs → StartsWith all ys → length xs ≤ length ys → StartsWith ys xs
  begins_begins all xs ys sx sy l = shorter_begins xs ys sx.0 sy.0 (sym sx.1 ∙ sy.1) l

  longer_by : (all xs ys : List A) (b : Bool) → ltb (length xs) (length ys) ≡ b → StartsWith all xs → StartsWith all ys
      → StartsWith all (cond b ys xs) × StartsWith (cond b ys xs) xs × StartsWith (cond b ys xs) ys
  longer_by all xs ys true e sx sy = (sy, begins_begins all xs ys sx sy (grind (arith, nat_tests)), begins_itself ys)
  longer_by all xs ys false e sx sy = (sx, begins_itself xs, begins_begins all ys xs sy sx (grind (arith, nat_tests)))

  -- the longer of two beginnings is one, and begins with both
  pub longer_begins : (all xs ys : List A) → StartsWith all xs → StartsWith all ys → StartsWith all (longer_of xs ys) × StartsWith (longer_of xs ys) xs × StartsWith (longer_of xs ys) ys
  longer_begins all xs ys sx sy = longer_by all xs ys (ltb (length xs) (length ys)) refl sx sy

module _ {O E : Type 0} where
  pub nothing_begins : (all : Seen O E) → IsPartOf all nothing_seen
  nothing_begins all = record { opening = refl; history = (all.history, refl); namings = (all.namings, refl) }

  module _ (all a b : Seen O E) (pa : IsPartOf all a) (pb : IsPartOf all b) where
    longer_opening : (x y : Option O) → OpeningFits all.opening x a → OpeningFits all.opening y b → OpeningFits all.opening (opening_of x y) (longer_seen a b)
    longer_opening None None ea eb = λ i. longer_seen (ea i) (eb i)
    longer_opening None (Some o) ea eb = eb
    longer_opening (Some o) y ea eb = ea

    first_opening : (x : Option O) → a.opening ≡ x → OpeningFits all.opening x a → OpeningFits (opening_of a.opening b.opening) x a
    first_opening None is fits = fits
    first_opening (Some o) is fits = ap (λ (x : Option O). opening_of x b.opening) is

    second_opening : (x y : Option O) → a.opening ≡ x → b.opening ≡ y → OpeningFits all.opening x a → OpeningFits all.opening y b → OpeningFits (opening_of a.opening b.opening) y b
    second_opening x None ia ib ea eb = eb
    second_opening None (Some o) ia ib ea eb = ap (λ (z : Option O). opening_of z b.opening) ia ∙ ib
    second_opening (Some p) (Some o) ia ib ea eb = ap (λ (z : Option O). opening_of z b.opening) ia ∙ (sym ea ∙ eb)

    -- the longer of two parts of what there is, is one, and no less than both
    pub longer_part : IsPartOf all (longer_seen a b) × IsPartOf (longer_seen a b) a × IsPartOf (longer_seen a b) b
    longer_part =
        let h = longer_begins all.history a.history b.history pa.history pb.history in
        let n = longer_begins all.namings a.namings b.namings pa.namings pb.namings in (
          record { opening = longer_opening a.opening b.opening pa.opening pb.opening; history = h.0; namings = n.0 },
          record { opening = first_opening a.opening refl pa.opening; history = h.1; namings = n.1 },
          record { opening = second_opening a.opening b.opening refl refl pa.opening pb.opening; history = h.2; namings = n.2 },
        )

-- a list that is told by its places, with one more
pub map_more : {A V : Type 0} (v : A → V) (f : ℕ → V) (xs : List A) (x : A) (n : ℕ) → map v xs ≡ map f (range_with_len 0 n) → v x ≡ f n → map v (xs ++ x ∷ []) ≡ map f (range_with_len 0 (n + 1))
map_more v f xs x n same here = map-append v xs (x ∷ []) ∙ (λ i. same i ++ here i ∷ []) ∙ sym (map-range_with_len_more f 0 n n (let e : 0 + n ≡ n = omega arith in e))
