-- Elements that are changed one after another, from the last one on, each by what stands at its place in another list.
use Rattle.std.proofs.Common.{◌≡◌, ◌∙◌, inl, inr, ℕ, ◌<◌, ◌≤◌, ◌++◌, ◌∷◌, [], List, length, take, set, Some, arith, refl, sym, ap, subst, length-append, length-set}
use Rattle.std.proofs.Math.Seq.{take-length}
use Rattle.std.proofs.lemmas.Bool.{cases_lt}
use Rattle.std.proofs.lemmas.List.{take_at}
use Rattle.std.proofs.lemmas.Option.{slice_get_within}
use Rattle.std.specs.List.{slice_get}
use Rattle.zone_table.proofs.Lists.{cut_behind, at_seam, get_set, get_set_other, some_is}

module _ {A B : Type 0} (R : A → A → B → Type 0) where
  -- what is left, and what was changed
  pub record Walk (first now : List A) (all left : List B) : Type 0 where
    pub count : length now ≡ length first
    pub rest : left ≡ take (length left) all
    pub before : (k : ℕ) → k < length left → slice_get now k ≡ slice_get first k
    pub done : (k : ℕ) (x y : A) (b : B) → length left ≤ k → slice_get first k ≡ Some x → slice_get now k ≡ Some y → slice_get all k ≡ Some b → R x y b

  pub walk_first : (xs : List A) (all : List B) → length xs ≤ length all → Walk xs xs all all
  walk_first xs all few = record {
    count = refl;
    rest = sym (take-length all);
    before = λ k l. refl;
    done = λ k x y b m ix iy ib. absurd (let l = slice_get_within xs k x ix in omega arith);
  }

  pub walk_next : (first now : List A) (all left front : List B) (b : B) (w : Walk first now all left) → left ≡ front ++ b ∷ [] → (k : ℕ) (x y : A) → k ≡ length front → slice_get now k ≡ Some x → k < length now → R x y b → Walk first (set now k y) all front
  walk_next first now all left front b w is k x y place there inside r =
      let count = ap length is ∙ length-append front (b ∷ []) in
      let cut = cut_behind all front b (length left) (sym is ∙ w.rest) in
      let at_b : slice_get all k ≡ Some b = ap (slice_get all) place ∙ ap (λ (l : List B). slice_get l (length front)) cut.1 ∙ at_seam front b cut.0 in
      record {
        count = length-set now k y ∙ w.count;
        rest = sym (ap (take (length front)) cut.1 ∙ take_at front (b ∷ cut.0) (length front) refl);
        before = λ j m. get_set_other now k j y (λ e. absurd (omega arith)) ∙ w.before j (omega arith);
        done = λ j u v c m iu iv ic. elim (cases_lt k j) [
          | inl g ↦ w.done j u v c (omega arith) iu (sym (get_set_other now k j y (λ e. absurd (omega arith))) ∙ iv) ic
          | inr g ↦ (
              let e : j ≡ k = omega arith in
              let u_is : x ≡ u = some_is x u (sym (sym (w.before j (omega arith)) ∙ ap (slice_get now) e ∙ there) ∙ iu) in
              let v_is : y ≡ v = some_is y v (sym (ap (slice_get (set now k y)) e ∙ get_set now k y inside) ∙ iv) in
              let c_is : b ≡ c = some_is b c (sym (ap (slice_get all) e ∙ at_b) ∙ ic) in
              subst (λ (z : A). R z v c) u_is (subst (λ (z : A). R x z c) v_is (subst (R x y) c_is r))
              )
        ];
      }
