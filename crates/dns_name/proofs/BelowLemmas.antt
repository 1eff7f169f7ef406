-- What stands in front of a name, label by label.
use Rattle.std.proofs.Common.{◌≡◌, ◌∙◌, ℕ, ◌<◌, ◌≤◌, ◌||◌, Bool, true, false, List, [], ◌∷◌, ◌++◌, length, refl, sym, ap, subst, arith, append_assoc, append-nil, length-append, Bor, Some, None}
use Rattle.std.specs.Str.{bytes_eq}
use Rattle.std.proofs.lemmas.Slice.Eq.{bytes_eq-Decides}
use Rattle.zone_model.specs.Names.{Name, wire, is_under, same_name}
use Rattle.zone_model.proofs.NameLemmas.{same_name-true}
use Rattle.zone_model.proofs.OrderLemmas.{under_ends}
use Rattle.dns_name.specs.Spelling.{Spells, IsFirst}
use Rattle.dns_name.specs.SortKeys.{label_key, sort_key, PushesBelow}
use Rattle.dns_name.proofs.WireLemmas.{spelled_once, stepped, ended, wire_some}

true_or_false : (b : Bool) {P : Type 0} → (b ≡ true → P) → (b ≡ false → P) → P
true_or_false true p q = p refl
true_or_false false p q = q refl

or-false : (a b : Bool) → a ≡ false → b ≡ false → (a || b) ≡ false
or-false true b e f = absurd cc
or-false false b e f = f

longer : (front top : Name) → length (wire top) ≤ length (wire (front ++ top))
longer [] top = omega arith
longer (l ∷ front) top = omega (arith, longer front top, length-append l (wire (front ++ top)))

not_under : (bytes top : List ℕ) (x y : Name) → Spells bytes x → Spells top y → length bytes ≤ length top → (bytes ≡ top → ⊥) → is_under x y ≡ false
not_under bytes top x y hx hy le n = true_or_false (is_under x y) (λ h. let e = under_ends x y h in absurd (by_front e.0 e.1)) (λ h. h)
  where
    by_front : (front : Name) → x ≡ front ++ y → ⊥
    by_front [] e = n (hx.same ∙ ap wire e ∙ sym hy.same)
    by_front (l ∷ front) e =
        let long = longer front y in
        let whole : length bytes ≡ length (wire ((l ∷ front) ++ y)) = ap length (hx.same ∙ ap wire e) in
        let short : length top ≡ length (wire y) = ap length hy.same in
        omega (arith, length-append l (wire (front ++ y)))

pub below_here : (bytes top : List ℕ) (x y : Name) (old : List ℕ) (b : Bool) → Spells bytes x → Spells top y → length bytes ≤ length top → b ≡ bytes_eq bytes top → PushesBelow b x y old old
below_here bytes top x y old true hx hy le e =
    let same : bytes ≡ top = (bytes_eq-Decides bytes top).0 (sym e) in
    ([], spelled_once bytes x y hx (subst (λ (l : List ℕ). Spells l y) (sym same) hy), sym (append-nil old))
below_here bytes top x y old false hx hy le e = not_under bytes top x y hx hy le (λ same. let t : bytes_eq bytes top ≡ true = (bytes_eq-Decides bytes top).1 same in let bad : false ≡ true = e ∙ t in cc)

pub below_none : {P : Type 0} (bytes top : List ℕ) (x y : Name) → Spells bytes x → Spells top y → length top < length bytes → IsFirst x None → P
below_none bytes top x y hx hy lt f =
    let none : x ≡ [] = ended bytes x hx f in
    let one : length bytes ≡ 1 = ap length (hx.same ∙ ap wire none) in
    absurd (omega (arith, wire_some top y hy))

pub beside : (bytes top : List ℕ) (x y : Name) (z : Bor (List ℕ) × Bor (List ℕ)) (old new : List ℕ) → Spells bytes x → Spells top y → length top < length bytes → IsFirst x (Some z)
    → ((ls : Name) → Spells z.1.now ls → PushesBelow false ls y old new) → is_under x y ≡ false
beside bytes top x y z old new hx hy lt f k =
    let s = stepped bytes x z hx f in
    let differ : same_name x y ≡ false = true_or_false (same_name x y)
    (λ h. let e : length bytes ≡ length top = ap length (hx.same ∙ ap wire (same_name-true x y h) ∙ sym hy.same) in absurd (omega arith))
    (λ h. h) in
    ap (λ (n : Name). is_under n y) s.is ∙ or-false (same_name (z.0.now ∷ s.labels) y) (is_under s.labels y) (ap (λ (n : Name). same_name n y) (sym s.is) ∙ differ) (k s.labels s.spells)

pub below_more : (bytes : List ℕ) (x y : Name) (z : Bor (List ℕ) × Bor (List ℕ)) (old middle new : List ℕ) → Spells bytes x → IsFirst x (Some z)
    → ((ls : Name) → Spells z.1.now ls → PushesBelow true ls y old middle) → new ≡ middle ++ label_key z.0.now → PushesBelow true x y old new
below_more bytes x y z old middle new hx f k e =
    let s = stepped bytes x z hx f in
    let p = k s.labels s.spells in
    (z.0.now ∷ p.0, s.is ∙ ap (λ (n : Name). z.0.now ∷ n) p.1, e ∙ ap (λ (l : List ℕ). l ++ label_key z.0.now) p.2 ∙ append_assoc old (sort_key p.0) (label_key z.0.now))
