-- The names at or under a name stand together, the name first.
use Rattle.std.proofs.Common.{◌≡◌, ◌∙◌, Bool, true, false, cond, not, ◌||◌, ◌&&◌, List, [], ◌∷◌, ◌++◌, reverse, refl, sym, ap}
use Rattle.std.specs.FinMap.{IsAntisymmetric, nat_cmp-IsAntisymmetric, slice_cmp-IsAntisymmetric}
use Rattle.std.specs.declared.cmp.Ordering.{Ordering}
use Rattle.std.specs.declared.cmp.Ordering.TheVariants.{Less, Equal, Greater}
use Rattle.std.specs.Ordering.{nat_cmp, is_eq, is_le, is_gt, ordering_then, ordering_reverse}
use Rattle.std.specs.Cmp.Lexicographic.{slice_cmp}
use Rattle.std.specs.List.{AllByRecursion}
use Rattle.std.specs.List.Sorted.{IsStrictlySortedBy}
use Rattle.std.specs.Map.{keys_of}
use Rattle.std.specs.BTreeMap.Range.{entries_between}
use Rattle.std.specs.declared.ops.Bound.TheVariants.{Included, Unbounded}
use Rattle.std.proofs.lemmas.Cmp.{nat_list_cmp_total}
use Rattle.std.proofs.lemmas.List.{reverse-append, reverse-reverse}
use Rattle.zone_model.specs.Names.{Label, Name, name_cmp, same_name, is_under}
use Rattle.zone_model.specs.NameOrder.{name_cmp_total}
use Rattle.zone_model.specs.Versions.{Version, exists}
use Rattle.zone_model.proofs.NameLemmas.{same_name-true}

-- ---- lists of labels, in the order of their octets

abbrev label_cmp : Label → Label → Ordering
label_cmp = slice_cmp nat_cmp

abbrev labels_cmp : List Label → List Label → Ordering
labels_cmp = slice_cmp label_cmp

reversed_self : (o : Ordering) → o ≡ ordering_reverse o → o ≡ Equal
reversed_self Less e = absurd cc
reversed_self Equal e = refl
reversed_self Greater e = absurd cc

label_same : (x : Label) → label_cmp x x ≡ Equal
label_same x = reversed_self (label_cmp x x) (nat_list_cmp_total.antisymm x x)

label_exact : IsAntisymmetric label_cmp
label_exact = slice_cmp-IsAntisymmetric nat_cmp-IsAntisymmetric

front_not_after : (a r : List Label) → is_gt (labels_cmp a (a ++ r)) ≡ false
front_not_after [] [] = refl
front_not_after [] (x ∷ r) = refl
front_not_after (x ∷ a) r = ap (λ (o : Ordering). is_gt (ordering_then o (labels_cmp a (a ++ r)))) (label_same x) ∙ front_not_after a r

first_labels : (x y : Label) (p q : Ordering) (o : Ordering) → label_cmp x y ≡ o → is_gt (ordering_then (label_cmp x y) p) ≡ false → is_gt (ordering_then (label_cmp y x) q) ≡ false → (x ≡ y) × (is_gt p ≡ false) × (is_gt q ≡ false)
first_labels x y p q Less e h k =
    let turned : label_cmp y x ≡ Greater = nat_list_cmp_total.antisymm y x ∙ ap ordering_reverse e in
    let bad : true ≡ false = ap (λ (o : Ordering). is_gt (ordering_then o q)) (sym turned) ∙ k in
    absurd cc
first_labels x y p q Equal e h k =
    let turned : label_cmp y x ≡ Equal = nat_list_cmp_total.antisymm y x ∙ ap ordering_reverse e in
    (label_exact x y e, ap (λ (o : Ordering). is_gt (ordering_then o p)) (sym e) ∙ h, ap (λ (o : Ordering). is_gt (ordering_then o q)) (sym turned) ∙ k)
first_labels x y p q Greater e h k =
    let bad : true ≡ false = ap (λ (o : Ordering). is_gt (ordering_then o p)) (sym e) ∙ h in
    absurd cc

-- what stands between a list and one that begins with it begins with it
between : (a b r : List Label) → is_gt (labels_cmp a b) ≡ false → is_gt (labels_cmp b (a ++ r)) ≡ false → (rest : List Label) × (b ≡ a ++ rest)
between [] b r h k = (b, refl)
between (x ∷ a) [] r h k = absurd cc
between (x ∷ a) (y ∷ b) r h k =
    let f = first_labels x y (labels_cmp a b) (labels_cmp b (a ++ r)) (label_cmp x y) refl h k in
    let i = between a b r f.1 f.2 in
    (i.0, ap (λ (l : Label). l ∷ b) (sym f.0) ∙ ap (λ (l : List Label). x ∷ l) i.1)

-- ---- names

either_true : (a b : Bool) {P : Type 0} → (a || b) ≡ true → (a ≡ true → P) → (b ≡ true → P) → P
either_true true b h p q = p refl
either_true false b h p q = q h

or-true : (b : Bool) → (b || true) ≡ true
or-true true = refl
or-true false = refl

-- a name under another ends with it
pub under_ends : (x top : Name) → is_under x top ≡ true → (front : Name) × (x ≡ front ++ top)
under_ends [] top h = ([], same_name-true [] top h)
under_ends (l ∷ ls) top h =
    either_true (same_name (l ∷ ls) top) (is_under ls top) h (λ s. ([], same_name-true (l ∷ ls) top s)) (λ s. let i = under_ends ls top s in (l ∷ i.0, ap (λ (n : Name). l ∷ n) i.1))

name_same : (x : Name) → same_name x x ≡ true
name_same x = ap is_eq (reversed_self (name_cmp x x) (name_cmp_total.antisymm x x))

self_under : (x : Name) → is_under x x ≡ true
self_under [] = name_same []
self_under (l ∷ ls) = ap (λ (b : Bool). b || is_under ls (l ∷ ls)) (name_same (l ∷ ls))

pub ends_under : (front top : Name) → is_under (front ++ top) top ≡ true
ends_under [] top = self_under top
ends_under (l ∷ front) top = ap (λ (b : Bool). same_name (l ∷ (front ++ top)) top || b) (ends_under front top) ∙ or-true (same_name (l ∷ (front ++ top)) top)

-- a name doesn't come after those under it
pub under_not_before : (x top : Name) → is_under x top ≡ true → is_gt (name_cmp top x) ≡ false
under_not_before x top h =
    let e = under_ends x top h in
    ap (λ (n : List Label). is_gt (labels_cmp (reverse top) n)) (ap reverse e.1 ∙ reverse-append e.0 top) ∙ front_not_after (reverse top) (reverse e.0)

-- what stands between a name and one under it is under it
pub under_between : (top x y : Name) → is_gt (name_cmp top x) ≡ false → is_gt (name_cmp x y) ≡ false → is_under y top ≡ true → is_under x top ≡ true
under_between top x y h k u =
    let e = under_ends y top u in
    let turned : reverse y ≡ reverse top ++ reverse e.0 = ap reverse e.1 ∙ reverse-append e.0 top in
    let b = between (reverse top) (reverse x) (reverse e.0) h (ap (λ (n : List Label). is_gt (labels_cmp (reverse x) n)) (sym turned) ∙ k) in
    let back : x ≡ reverse b.0 ++ top =
    sym (reverse-reverse x) ∙ ap reverse b.1 ∙ reverse-append (reverse top) b.0 ∙ ap (λ (n : Name). reverse b.0 ++ n) (reverse-reverse top) in
    ap (λ (n : Name). is_under n top) back ∙ ends_under (reverse b.0) top

-- ---- versions

-- the first of some names is at or under a name
abbrev pub first_under : Name → Version → Bool
first_under name [] = false
first_under name (pair ∷ rest) = is_under pair.0 name

true_or_false : (b : Bool) {P : Type 0} → (b ≡ true → P) → (b ≡ false → P) → P
true_or_false true p q = p refl
true_or_false false p q = q refl

less_not_gt : (o : Ordering) → o ≡ Less → is_gt o ≡ false
less_not_gt o e = ap is_gt e

le_not_gt : (o : Ordering) → is_le o ≡ true → is_gt o ≡ false
le_not_gt Less h = refl
le_not_gt Equal h = refl
le_not_gt Greater h = absurd cc

gt_of_le : (o : Ordering) → is_le o ≡ false → is_gt o ≡ true
gt_of_le Less h = absurd cc
gt_of_le Equal h = absurd cc
gt_of_le Greater h = refl

none_behind : (name x : Name) (rest : Version) → is_gt (name_cmp name x) ≡ false → is_under x name ≡ false → AllByRecursion (λ y. name_cmp x y ≡ Less) (keys_of rest) → exists name rest ≡ false
none_behind name x [] h n a = refl
none_behind name x (pair ∷ rest) h n a =
    true_or_false (is_under pair.0 name)
    (λ u. let k : is_under x name ≡ true = under_between name x pair.0 h (less_not_gt (name_cmp x pair.0) a.0) u in absurd cc)
    (λ u. ap (λ (b : Bool). b || exists name rest) u ∙ none_behind name x rest h n a.1)

-- A name exists where the first one that doesn't come before it is at or under it.
pub exists_near : (name : Name) (version : Version) → IsStrictlySortedBy name_cmp (keys_of version) → first_under name (entries_between name_cmp (Included name) Unbounded version) ≡ exists name version
unfolding IsStrictlySortedBy
exists_near name [] s = refl
exists_near name (pair ∷ rest) s =
    true_or_false (is_le (name_cmp name pair.0))
    (λ l. ap (λ (b : Bool). first_under name (cond (b && not false) (pair ∷ entries_between name_cmp (Included name) Unbounded rest) (entries_between name_cmp (Included name) Unbounded rest))) l ∙ first (le_not_gt (name_cmp name pair.0) l))
    (λ l. ap (λ (b : Bool). first_under name (cond (b && not false) (pair ∷ entries_between name_cmp (Included name) Unbounded rest) (entries_between name_cmp (Included name) Unbounded rest))) l ∙ exists_near name rest s.1 ∙ sym (later (gt_of_le (name_cmp name pair.0) l)))
  where
    first : is_gt (name_cmp name pair.0) ≡ false → is_under pair.0 name ≡ (is_under pair.0 name || exists name rest)
    first h = true_or_false (is_under pair.0 name)
        (λ u. u ∙ sym (ap (λ (b : Bool). b || exists name rest) u))
        (λ u. u ∙ sym (ap (λ (b : Bool). b || exists name rest) u ∙ none_behind name pair.0 rest h u s.0))

    later : is_gt (name_cmp name pair.0) ≡ true → (is_under pair.0 name || exists name rest) ≡ exists name rest
    later h = true_or_false (is_under pair.0 name)
        (λ u. let k : is_gt (name_cmp name pair.0) ≡ false = under_not_before pair.0 name u in absurd cc)
        (λ u. ap (λ (b : Bool). b || exists name rest) u)
