-- Names that compare alike are one, and a name is under another where it ends with it.
use Rattle.std.proofs.Common.{◌≡◌, ℕ, zero, suc, ◌+◌, ◌<◌, Bool, true, false, ◌||◌, List, [], ◌∷◌, length, drop, reverse, sym, ap, ◌∙◌, refl, arith, inl, inr, ◌⊎◌}
use Rattle.std.specs.FinMap.{nat_cmp-IsAntisymmetric, slice_cmp-IsAntisymmetric}
use Rattle.std.specs.declared.cmp.Ordering.{Ordering}
use Rattle.std.specs.declared.cmp.Ordering.TheVariants.{Less, Equal, Greater}
use Rattle.std.specs.Ordering.{is_eq}
use Rattle.std.proofs.lemmas.List.{reverse-reverse}
use Rattle.zone_model.specs.Names.{name_cmp, same_name, is_under}

pub name_cmp-IsAntisymmetric : (x y : List (List ℕ)) → name_cmp x y ≡ Equal → x ≡ y
name_cmp-IsAntisymmetric x y e =
    let turned : reverse x ≡ reverse y = slice_cmp-IsAntisymmetric (slice_cmp-IsAntisymmetric nat_cmp-IsAntisymmetric) (reverse x) (reverse y) e in
    sym (reverse-reverse x) ∙ ap reverse turned ∙ reverse-reverse y

is_eq_true : (o : Ordering) → is_eq o ≡ true → o ≡ Equal
is_eq_true Less h = cc
is_eq_true Equal h = refl
is_eq_true Greater h = cc

pub same_name-true : (x y : List (List ℕ)) → same_name x y ≡ true → x ≡ y
same_name-true x y h = name_cmp-IsAntisymmetric x y (is_eq_true (name_cmp x y) h)

false_or_true : (b : Bool) → (b ≡ false) ⊎ (b ≡ true)
false_or_true true = inr refl
false_or_true false = inl refl

pub same_name-lengths : (x y : List (List ℕ)) → (length x ≡ length y → ⊥) → same_name x y ≡ false
same_name-lengths x y n = elim (false_or_true (same_name x y)) [ inl h ↦ h | inr h ↦ absurd (n (ap length (same_name-true x y h))) ]

pub is_under-shorter : (x y : List (List ℕ)) → length x < length y → is_under x y ≡ false
is_under-shorter [] y h = same_name-lengths [] y (λ e. omega arith)
is_under-shorter (l ∷ ls) y h =
    let lt : length ls < length y = omega arith in
    let first : same_name (l ∷ ls) y ≡ false = same_name-lengths (l ∷ ls) y (λ e. omega arith) in
    rw first (is_under-shorter ls y lt)

or-false : (b : Bool) → (b || false) ≡ b
or-false true = refl
or-false false = refl

pub is_under-drop : (x y : List (List ℕ)) (n : ℕ) → length x ≡ n + length y → is_under x y ≡ same_name (drop n x) y
is_under-drop [] y zero e = refl
is_under-drop [] y (suc n) e = absurd (omega arith)
is_under-drop (l ∷ ls) y zero e =
    let lt : length ls < length y = omega arith in
    rw (is_under-shorter ls y lt) (or-false (same_name (l ∷ ls) y))
is_under-drop (l ∷ ls) y (suc n) e =
    let first : same_name (l ∷ ls) y ≡ false = same_name-lengths (l ∷ ls) y (λ f. omega arith) in
    let rest : length ls ≡ n + length y = omega arith in
    rw first (is_under-drop ls y n rest)
