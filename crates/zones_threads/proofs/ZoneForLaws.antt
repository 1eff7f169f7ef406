-- The zone of a name is the one with the deepest origin.
use Rattle.std.proofs.Common.{◌≡◌, ◌∙◌, ⊎_elim, ℕ, zero, suc, ◌+◌, ◌≤◌, Bool, true, false, cond, ◌&&◌, List, [], ◌∷◌, length, Option, Some, None, refl, sym, ap, subst, arith}
use Rattle.std.proofs.lemmas.Bool.{and_parts, or_cases, or_right}
use Rattle.std.specs.List.{AllByRecursion, IsDistinct, slice_get}
use Rattle.zone_model.specs.Names.{Name, ancestor, same_name, is_under}
use Rattle.zone_model.specs.NameOrder.{same_name_equiv}
use Rattle.zone_model.proofs.NameLemmas.{same_name-true}
use Rattle.zone_answer.proofs.AncestorLaws.{self_under}
use Rattle.trie_model.specs.Keys.{Entry}
use Rattle.zones_model.specs.Tables.{or_else, zone_at, zone_for}
use Rattle.zone_table.specs.Locations.{IsDeepest, IsZoneOf}
use Rattle.zone_table.proofs.Lists.{contains_at, some_is}
use Rattle.zone_table.proofs.OriginLaws.{above_is}
use Rattle.zones_threads.specs.Steps.{IsOrNot}
use Rattle.zones_threads.specs.Works.{AreApart}

-- ---- an attached zone that has this very origin

pub at_some : (attached : ℕ → Bool) (n : ℕ) (origins : List Name) (name : Name) (k : ℕ) → zone_at attached n origins name ≡ Some k → (i : ℕ) × (k ≡ n + i) × (slice_get origins i ≡ Some name) × (attached k ≡ true)
at_some attached n [] name k e = absurd cc
at_some attached n (o ∷ os) name k e = by_test (λ f. at_some attached (n + 1) os name k f) (attached n && same_name o name) refl e
  where
    by_test : (zone_at attached (n + 1) os name ≡ Some k → (i : ℕ) × (k ≡ (n + 1) + i) × (slice_get os i ≡ Some name) × (attached k ≡ true)) → (b : Bool) → (attached n && same_name o name) ≡ b → cond b (Some n) (zone_at attached (n + 1) os name) ≡ Some k
        → (i : ℕ) × (k ≡ n + i) × (slice_get (o ∷ os) i ≡ Some name) × (attached k ≡ true)
    by_test further true test e =
        let both = and_parts (attached n) (same_name o name) test in
        let same : n ≡ k = some_is n k e in
        (0, omega (arith, same), ap Some (same_name-true o name both.1), subst (λ (m : ℕ). attached m ≡ true) same both.0)
    by_test further false test e = let r = further e in (suc r.0, (let p = r.1 in omega (arith, p)), r.2, r.3)

pub at_none : (attached : ℕ → Bool) (n : ℕ) (origins : List Name) (name : Name) → zone_at attached n origins name ≡ None → (i : ℕ) → slice_get origins i ≡ Some name → attached (n + i) ≡ true → ⊥
at_none attached n [] name e i there on = absurd cc
at_none attached n (o ∷ os) name e zero there on =
    let same : o ≡ name = some_is o name there in
    let here : attached n ≡ true = subst (λ (m : ℕ). attached m ≡ true) (let z : n + 0 ≡ n = omega arith in z) on in
    let test : (attached n && same_name o name) ≡ true = ap (λ (b : Bool). b && same_name o name) here ∙ subst (λ (m : Name). same_name o m ≡ true) same (same_name_equiv.refl o) in
    let found : Some n ≡ None = sym (ap (λ (b : Bool). cond b (Some n) (zone_at attached (n + 1) os name)) test) ∙ e in cc
at_none attached n (o ∷ os) name e (suc i) there on =
    by_test (λ f. at_none attached (n + 1) os name f i there (subst (λ (m : ℕ). attached m ≡ true) (let z : n + suc i ≡ (n + 1) + i = omega arith in z) on)) (attached n && same_name o name) e
  where
    by_test : (zone_at attached (n + 1) os name ≡ None → ⊥) → (b : Bool) → cond b (Some n) (zone_at attached (n + 1) os name) ≡ None → ⊥
    by_test further true e = absurd (let f : Some n ≡ None = e in cc)
    by_test further false e = further e

-- ---- the nearest at or above a name

pub record Nearest (attached : ℕ → Bool) (origins : List Name) (name : Name) (k : ℕ) : Type 0 where
  pub origin : Name
  pub there : slice_get origins k ≡ Some origin
  pub on : attached k ≡ true
  pub above : is_under name origin ≡ true
  pub near : (j : ℕ) (o : Name) → slice_get origins j ≡ Some o → attached j ≡ true → is_under name o ≡ true → length o ≤ length origin

-- one whose origin is the name itself
nearest_here : (attached : ℕ → Bool) (origins : List Name) (name : Name) (k : ℕ) → zone_at attached 0 origins name ≡ Some k → Nearest attached origins name k
nearest_here attached origins name k e =
    let r = at_some attached 0 origins name k e in
    let same : r.0 ≡ k = (let p = r.1 in omega (arith, p)) in
    record {
      origin = name;
      there = subst (λ (i : ℕ). slice_get origins i ≡ Some name) same r.2;
      on = r.3;
      above = self_under name;
      near = λ j o there on above. (let a = above_is name o above in a.1);
    }

pub for_some : (attached : ℕ → Bool) (origins : List Name) (name : Name) (k : ℕ) → zone_for attached origins name ≡ Some k → Nearest attached origins name k
for_some attached origins [] k e = nearest_here attached origins [] k e
for_some attached origins (l ∷ ls) k e = by_here (λ f. for_some attached origins ls k f) (zone_at attached 0 origins (l ∷ ls)) refl e
  where
    by_here : (zone_for attached origins ls ≡ Some k → Nearest attached origins ls k) → (r : Option ℕ) → zone_at attached 0 origins (l ∷ ls) ≡ r → or_else r (zone_for attached origins ls) ≡ Some k → Nearest attached origins (l ∷ ls) k
    by_here further (Some j) is e = nearest_here attached origins (l ∷ ls) k (is ∙ e)
    by_here further None is e =
        let r = further e in
        record {
          origin = r.origin;
          there = r.there;
          on = r.on;
          above = or_right (same_name (l ∷ ls) r.origin) (is_under ls r.origin) r.above;
          near = λ j o there on above. ⊎_elim
              (λ (s : same_name (l ∷ ls) o ≡ true).
              let same : l ∷ ls ≡ o = same_name-true (l ∷ ls) o s in
              absurd (at_none attached 0 origins (l ∷ ls) is j (there ∙ ap Some (sym same)) (subst (λ (m : ℕ). attached m ≡ true) (let z : j ≡ 0 + j = omega arith in z) on)))
              (λ (u : is_under ls o ≡ true). r.near j o there on u)
              (or_cases (same_name (l ∷ ls) o) (is_under ls o) above);
        }

pub for_none : (attached : ℕ → Bool) (origins : List Name) (name : Name) → zone_for attached origins name ≡ None → (j : ℕ) (o : Name) → slice_get origins j ≡ Some o → attached j ≡ true → is_under name o ≡ true → ⊥
for_none attached origins [] e j o there on above =
    let same : [] ≡ o = same_name-true [] o above in
    at_none attached 0 origins [] e j (there ∙ ap Some (sym same)) (subst (λ (m : ℕ). attached m ≡ true) (let z : j ≡ 0 + j = omega arith in z) on)
for_none attached origins (l ∷ ls) e j o there on above = by_here (λ f u. for_none attached origins ls f j o there on u) (zone_at attached 0 origins (l ∷ ls)) refl e
  where
    by_here : (zone_for attached origins ls ≡ None → is_under ls o ≡ true → ⊥) → (r : Option ℕ) → zone_at attached 0 origins (l ∷ ls) ≡ r → or_else r (zone_for attached origins ls) ≡ None → ⊥
    by_here further (Some k) is e = absurd (let f : Some k ≡ None = e in cc)
    by_here further None is e = ⊎_elim
        (λ (s : same_name (l ∷ ls) o ≡ true).
        let same : l ∷ ls ≡ o = same_name-true (l ∷ ls) o s in
        at_none attached 0 origins (l ∷ ls) is j (there ∙ ap Some (sym same)) (subst (λ (m : ℕ). attached m ≡ true) (let z : j ≡ 0 + j = omega arith in z) on))
        (λ (u : is_under ls o ≡ true). further e u)
        (or_cases (same_name (l ∷ ls) o) (is_under ls o) above)

-- ---- no origin comes twice

differs_at : (x : Name) (xs : List Name) (j : ℕ) (o : Name) → AllByRecursion (λ y. same_name x y ≡ false) xs → slice_get xs j ≡ Some o → same_name x o ≡ false
differs_at x [] j o all there = absurd cc
differs_at x (y ∷ xs) zero o all there = subst (λ (z : Name). same_name x z ≡ false) (some_is y o there) all.0
differs_at x (y ∷ xs) (suc j) o all there = differs_at x xs j o all.1 there

pub not_again : (x : Name) (xs : List Name) (j : ℕ) (o : Name) → AllByRecursion (λ y. same_name x y ≡ false) xs → slice_get xs j ≡ Some o → x ≡ o → ⊥
not_again x xs j o all there same =
    let no : same_name x o ≡ false = differs_at x xs j o all there in
    let yes : same_name x o ≡ true = subst (λ (z : Name). same_name x z ≡ true) same (same_name_equiv.refl x) in cc

pub once : (origins : List Name) → IsDistinct same_name origins → (i j : ℕ) (o : Name) → slice_get origins i ≡ Some o → slice_get origins j ≡ Some o → i ≡ j
unfolding IsDistinct
once [] d i j o a b = absurd cc
once (x ∷ xs) d zero zero o a b = refl
once (x ∷ xs) d zero (suc j) o a b = absurd (not_again x xs j o d.0 b (some_is x o a))
once (x ∷ xs) d (suc i) zero o a b = absurd (not_again x xs i o d.0 a (some_is x o b))
once (x ∷ xs) d (suc i) (suc j) o a b = ap suc (once xs d.1 i j o a b)

-- ---- what is located is the zone of the name

module _ (origins : List Name) (apart : AreApart origins) (attached : ℕ → Bool) (es : List Entry) (are : (zone : ℕ) (origin : Name) → slice_get origins zone ≡ Some origin → IsOrNot (attached zone) es origin) where
  -- a zone is attached exactly where its origin is
  on_is : (zone : ℕ) (origin : Name) → slice_get origins zone ≡ Some origin → IsOrNot true es origin → attached zone ≡ true
  on_is zone origin there is = by_test (attached zone) refl (are zone origin there)
    where
      by_test : (b : Bool) → attached zone ≡ b → IsOrNot b es origin → attached zone ≡ true
      by_test true e h = e
      by_test false e h = absurd (h is)

  is_on : (zone : ℕ) (origin : Name) → slice_get origins zone ≡ Some origin → attached zone ≡ true → IsOrNot true es origin
  is_on zone origin there e = subst (λ (b : Bool). IsOrNot b es origin) e (are zone origin there)

  none_is : (name : Name) → IsZoneOf origins es name None → (r : Option ℕ) → zone_for attached origins name ≡ r → r ≡ None
  none_is name h None e = refl
  none_is name h (Some k) e =
      let n = for_some attached origins name k e in
      absurd (h n.origin (contains_at origins k n.origin n.there) (record { attached = is_on k n.origin n.there n.on; above = n.above }))

  deepest_is : (name : Name) (z : ℕ) → IsDeepest origins es name z → (r : Option ℕ) → zone_for attached origins name ≡ r → r ≡ Some z
  deepest_is name z d None e = absurd (for_none attached origins name e z d.origin d.origin_is (on_is z d.origin d.origin_is d.covers.attached) d.covers.above)
  deepest_is name z d (Some k) e =
      let n = for_some attached origins name k e in
      let longer = n.near z d.origin d.origin_is (on_is z d.origin d.origin_is d.covers.attached) d.covers.above in
      let shorter = d.deepest n.origin (contains_at origins k n.origin n.there) (record { attached = is_on k n.origin n.there n.on; above = n.above }) in
      let many : length n.origin ≡ length d.origin = omega (arith, longer, shorter) in
      let one = above_is name n.origin n.above in
      let other = above_is name d.origin d.covers.above in
      let same : n.origin ≡ d.origin = sym one.0 ∙ ap (λ (m : ℕ). ancestor m name) many ∙ other.0 in
      ap Some (once origins apart.different k z d.origin (n.there ∙ ap Some same) d.origin_is)

  pub zone_is : (name : Name) (z : Option ℕ) → IsZoneOf origins es name z → z ≡ zone_for attached origins name
  zone_is name None h = sym (none_is name h (zone_for attached origins name) refl)
  zone_is name (Some z) d = sym (deepest_is name z d (zone_for attached origins name) refl)
