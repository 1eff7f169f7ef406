-- Two keys, place by place.
use Rattle.std.proofs.Common.{◌≡◌, ℕ, suc, ◌<◌, ◌≤◌, List, [], ◌∷◌, length, max, get_or, sym, ap, ◌∙◌, refl, arith, inl, inr, Option, Some, None}
use Rattle.std.specs.Prelude.{IfSome, IsNone}
use Rattle.std.proofs.lemmas.Bool.{cases_lt}
use Rattle.std.proofs.lemmas.List.{get_or_past}
use Rattle.std.proofs.lemmas.Bool.Decides.{nat_tests}
use Rattle.std.specs.declared.cmp.Ordering.{Ordering}
use Rattle.std.specs.declared.cmp.Ordering.TheVariants.{Equal}
use Rattle.std.specs.Ordering.{nat_cmp, ordering_then}
use Rattle.zone_model.specs.Names.{Name, IsName}
use Rattle.zone_model.specs.Keys.{key_of, key_cmp, IsKey, IsFirstDifference}
use Rattle.zone_model.proofs.KeyLaws.{key_cmp-Equal}

nat_cmp-equal : (x y : ℕ) → x ≡ y → nat_cmp x y ≡ Equal
nat_cmp-equal x y e = grind (arith, nat_tests)

pub same_places : (a b : List ℕ) → ((k : ℕ) → get_or a k 0 ≡ get_or b k 0) → key_cmp a b ≡ Equal
same_places [] [] h = refl
same_places [] (y ∷ ys) h = ap (λ (o : Ordering). ordering_then o (key_cmp [] ys)) (nat_cmp-equal 0 y (h 0)) ∙ same_places [] ys (λ k. h (suc k))
same_places (x ∷ xs) [] h = ap (λ (o : Ordering). ordering_then o (key_cmp xs [])) (nat_cmp-equal x 0 (h 0)) ∙ same_places xs [] (λ k. h (suc k))
same_places (x ∷ xs) (y ∷ ys) h = ap (λ (o : Ordering). ordering_then o (key_cmp xs ys)) (nat_cmp-equal x y (h 0)) ∙ same_places xs ys (λ k. h (suc k))

-- keys that agree at each place are one
pub same_keys : (a b : List ℕ) → IsKey a → IsKey b → ((k : ℕ) → get_or a k 0 ≡ get_or b k 0) → a ≡ b
same_keys a b x y h =
    let equal : key_cmp (key_of x.0) (key_of y.0) ≡ Equal = ap (λ (l : List ℕ). key_cmp l (key_of y.0)) (sym x.2) ∙ ap (key_cmp a) (sym y.2) ∙ same_places a b h in
    x.2 ∙ ap key_of (key_cmp-Equal x.0 y.0 x.1.each y.1.each equal) ∙ sym y.2

-- the places below both lengths are all that count
pub all_places : (a b : List ℕ) (end : ℕ) → length a ≤ end → length b ≤ end → ((k : ℕ) → k < end → get_or a k 0 ≡ get_or b k 0) → (k : ℕ) → get_or a k 0 ≡ get_or b k 0
all_places a b end la lb same k = elim (cases_lt k end) [ inl lt ↦ same k lt | inr past ↦ get_or_past a k 0 (omega arith) ∙ sym (get_or_past b k 0 (omega arith)) ]

-- one list has no first difference
pub none_differs : (r : Option ℕ) (a b : List ℕ) → IfSome r (IsFirstDifference a b) → a ≡ b → IsNone r
none_differs None a b h e = refl
none_differs (Some at) a b h e = absurd (h.differ (ap (λ (l : List ℕ). get_or l at 0) e))

-- keys that agree below the longer one's end are one
pub agree_whole : (a b : Name) (x y : List ℕ) (la lb end at : ℕ) → IsName a → IsName b → key_of a ≡ x → key_of b ≡ y → la ≡ length (key_of a) → lb ≡ length (key_of b) → end ≡ max la lb → end ≤ at
    → ((k : ℕ) → k < at → get_or x k 0 ≡ get_or y k 0) → x ≡ y
agree_whole a b x y la lb end at ia ib ex ey ea eb em past same =
    same_keys x y (a, ia, sym ex) (b, ib, sym ey) (all_places x y at (omega (arith, ap length ex)) (omega (arith, ap length ey)) same)
