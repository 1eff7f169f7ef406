-- Keys are in the order of their names.
use Rattle.std.proofs.Common.{◌≡◌, ◌∙◌, ℕ, zero, suc, ◌<◌, inl, inr, false, List, [], ◌∷◌, refl, sym, ap, subst, arith}
use Rattle.std.specs.List.{AllByRecursion}
use Rattle.std.specs.declared.cmp.Ordering.{Ordering}
use Rattle.std.specs.declared.cmp.Ordering.TheVariants as order
use Rattle.std.specs.Ordering.{nat_cmp, ordering_then, ordering_reverse, is_gt}
use Rattle.std.specs.Cmp.{ranked}
use Rattle.zone_model.specs.Names.{Name, IsLabel, name_cmp}
use Rattle.zone_model.specs.NameOrder.{name_cmp_total}
use Rattle.zone_model.specs.Keys.{key_of, key_cmp}
use Rattle.zone_model.proofs.NameLemmas.{name_cmp-IsAntisymmetric}
use Rattle.zone_model.proofs.KeyLaws.{key_cmp-key_of, key_once}
use Rattle.zone_model.proofs.OrderLemmas.{under_not_before, ends_under}
use Rattle.trie_model.specs.Keys.{at, Less}
use Rattle.trie_model.specs.Order.{IsUpTo}
use Rattle.trie_model.proofs.OrderLaws.{less_not_back}

here : (a b : List ℕ) → at a 0 < at b 0 → Less a b
here a b l = record { place = 0; same = λ i k. absurd (omega arith); lower = l }

later : (a b ta tb : List ℕ) → at a 0 ≡ at b 0 → ((i : ℕ) → at a (suc i) ≡ at ta i) → ((i : ℕ) → at b (suc i) ≡ at tb i) → Less ta tb → Less a b
later a b ta tb e x y l = record { place = suc l.place; same = same; lower = subst (λ (n : ℕ). n < at b (suc l.place)) (sym (x l.place)) (subst (λ (n : ℕ). at ta l.place < n) (sym (y l.place)) l.lower) }
  where
    same : (i : ℕ) → i < suc l.place → at a i ≡ at b i
    same zero k = e
    same (suc i) k = x i ∙ l.same i (omega arith) ∙ sym (y i)

-- the first positions decide, or the others do
by_first : (a b ta tb : List ℕ) (x y : ℕ) → at a 0 ≡ x → at b 0 ≡ y → ((i : ℕ) → at a (suc i) ≡ at ta i) → ((i : ℕ) → at b (suc i) ≡ at tb i) → (key_cmp ta tb ≡ order.Less → Less ta tb) → ordering_then (nat_cmp x y) (key_cmp ta tb) ≡ order.Less → Less a b
by_first a b ta tb x y p q u v rest h = by_order (nat_cmp x y) refl h
  where
    by_order : (o : Ordering) → nat_cmp x y ≡ o → ordering_then o (key_cmp ta tb) ≡ order.Less → Less a b
    by_order order.Less e k = let l : x < y = ranked x y order.Less (sym e) in here a b (omega arith)
    by_order order.Equal e k = let s : x ≡ y = ranked x y order.Equal (sym e) in later a b ta tb (p ∙ s ∙ sym q) u v (rest k)
    by_order order.Greater e k = absurd cc

key_less : (a b : List ℕ) → key_cmp a b ≡ order.Less → Less a b
key_less [] [] h = absurd cc
key_less [] (y ∷ ys) h = by_first [] (y ∷ ys) [] ys 0 y refl refl (λ i. refl) (λ i. refl) (key_less [] ys) h
key_less (x ∷ xs) [] h = by_first (x ∷ xs) [] xs [] x 0 refl refl (λ i. refl) (λ i. refl) (key_less xs []) h
key_less (x ∷ xs) (y ∷ ys) h = by_first (x ∷ xs) (y ∷ ys) xs ys x y refl refl (λ i. refl) (λ i. refl) (key_less xs ys) h

pub before_key : (a b : Name) → AllByRecursion IsLabel a → AllByRecursion IsLabel b → Less (key_of a) (key_of b) → name_cmp a b ≡ order.Less
before_key a b ha hb l = by_order (name_cmp a b) refl
  where
    by_order : (o : Ordering) → name_cmp a b ≡ o → name_cmp a b ≡ order.Less
    by_order order.Less e = e
    by_order order.Equal e =
        let self : Less (key_of a) (key_of a) = subst (λ (n : Name). Less (key_of a) (key_of n)) (sym (name_cmp-IsAntisymmetric a b e)) l in
        absurd (less_not_back (key_of a) (key_of a) self self)
    by_order order.Greater e =
        let turned : name_cmp b a ≡ order.Less = name_cmp_total.antisymm b a ∙ ap ordering_reverse e in
        absurd (less_not_back (key_of a) (key_of b) l (key_less (key_of b) (key_of a) (key_cmp-key_of b a hb ha ∙ turned)))

pub up_to_key : (a b : Name) → AllByRecursion IsLabel a → AllByRecursion IsLabel b → IsUpTo (key_of a) (key_of b) → is_gt (name_cmp a b) ≡ false
up_to_key a b ha hb (inl e) = subst (λ (n : Name). is_gt (name_cmp a n) ≡ false) (key_once a b ha hb e) (under_not_before a a (ends_under [] a))
up_to_key a b ha hb (inr l) = ap is_gt (before_key a b ha hb l)
