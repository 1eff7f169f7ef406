-- How many zones a version of the table has.
use Rattle.std.proofs.Common.{◌≡◌, ◌≢◌, ◌∙◌, ◌⊎◌, inl, inr, ⊎_elim, ℕ, suc, ◌+◌, Bool, true, false, cond, List, [], ◌∷◌, ◌++◌, length, Some, refl, sym, ap, subst, arith, length-append}
use Rattle.std.specs.Prelude.{Contains}
use Rattle.std.specs.List.{AllByRecursion, IsDistinct, slice_get}
use Rattle.pin_core.proofs.Lists.{contains_cases}
use Rattle.zone_model.specs.Names.{Name, IsName, same_name}
use Rattle.zone_model.specs.Keys.{key_of}
use Rattle.zone_model.proofs.KeyLaws.{key_once}
use Rattle.trie_model.specs.Keys.{Entry, InList, Less, Rises}
use Rattle.trie_model.proofs.OrderLaws.{less_not_back}
use Rattle.zones_model.specs.Tables.{attached_count}
use Rattle.zone_table.specs.Tables.{IsAttached, IsPart, entry_for}
use Rattle.zone_table.proofs.Lists.{contains_at, each_in}
use Rattle.zones_threads.specs.Steps.{IsOrNot}
use Rattle.zones_threads.specs.Works.{AreApart}
use Rattle.zones_threads.proofs.ZoneForLaws.{not_again}

-- ---- a list with an entry taken out

record Around (e : Entry) (es : List Entry) : Type 0 where
  before : List Entry
  after : List Entry
  whole : es ≡ before ++ (e ∷ after)

around : (e : Entry) (es : List Entry) → InList e es → Around e es
around e [] i = absurd i
around e (x ∷ es) (inl s) = record { before = []; after = es; whole = ap (λ (y : Entry). y ∷ es) (sym s) }
around e (x ∷ es) (inr i) = let a = around e es i in record { before = x ∷ a.before; after = a.after; whole = ap (λ (l : List Entry). x ∷ l) a.whole }

in_rest : (before after : List Entry) (e x : Entry) → InList x (before ++ after) → InList x (before ++ (e ∷ after))
in_rest [] after e x i = inr i
in_rest (y ∷ before) after e x (inl s) = inl s
in_rest (y ∷ before) after e x (inr i) = inr (in_rest before after e x i)

from_rest : (before after : List Entry) (e x : Entry) → InList x (before ++ (e ∷ after)) → (x ≡ e) ⊎ InList x (before ++ after)
from_rest [] after e x (inl s) = inl s
from_rest [] after e x (inr i) = inr i
from_rest (y ∷ before) after e x (inl s) = inr (inl s)
from_rest (y ∷ before) after e x (inr i) = ⊎_elim (λ (s : x ≡ e). inl s) (λ (m : InList x (before ++ after)). inr (inr m)) (from_rest before after e x i)

rises_rest : (before after : List Entry) (e : Entry) → Rises (before ++ (e ∷ after)) → Rises (before ++ after)
rises_rest [] after e r = r.1
rises_rest (x ∷ before) after e r = ((λ y i. r.0 y (in_rest before after e y i)), rises_rest before after e r.1)

in_middle : (before after : List Entry) (e : Entry) → InList e (before ++ (e ∷ after))
in_middle [] after e = inl refl
in_middle (x ∷ before) after e = inr (in_middle before after e)

-- no other entry has its key
alone : (before after : List Entry) (e x : Entry) → Rises (before ++ (e ∷ after)) → InList x (before ++ after) → x.key ≡ e.key → ⊥
alone [] after e x r i same = let l = r.0 x i in let m = subst (Less e.key) same l in less_not_back e.key e.key m m
alone (y ∷ before) after e x r (inl s) same =
    let l = r.0 e (in_middle before after e) in
    let m = subst (λ k. Less k e.key) (ap (λ (z : Entry). z.key) (sym s) ∙ same) l in less_not_back e.key e.key m m
alone (y ∷ before) after e x r (inr i) same = alone before after e x r.1 i same

-- what is said of the other origins is so without it
less_rest : (b : Bool) (origin : Name) (before after : List Entry) (e : Entry) (es : List Entry) → es ≡ before ++ (e ∷ after) → key_of origin ≢ e.key → IsOrNot b es origin → IsOrNot b (before ++ after) origin
less_rest true origin before after e es whole differ a = (
  a.0,
  ⊎_elim (λ (s : a.0 ≡ e). absurd (differ (sym a.2 ∙ ap (λ (x : Entry). x.key) s))) (λ (m : InList a.0 (before ++ after)). m) (from_rest before after e a.0 (subst (InList a.0) whole a.1)),
  a.2,
)
less_rest false origin before after e es whole differ h = λ a. h (a.0, subst (InList a.0) (sym whole) (in_rest before after e a.0 a.1), a.2)

-- ---- origins, from the first on

-- the version has entries of these origins alone, whose first has number n
module _ (attached : ℕ → Bool) where
  abbrev Are : ℕ → List Name → List Entry → Type 0
  Are n origins es = (k : ℕ) (origin : Name) → slice_get origins k ≡ Some origin → IsOrNot (attached (n + k)) es origin

  none_of : (es : List Entry) → ((e : Entry) → InList e es → (origin : Name) × Contains [] origin × (e ≡ entry_for origin)) → es ≡ []
  none_of [] only = refl
  none_of (e ∷ es) only = let o = only e (inl refl) in absurd (let l = o.1.1 in omega arith)

  counted : (n : ℕ) (origins : List Name) (es : List Entry) → AllByRecursion IsName origins → IsDistinct same_name origins → IsPart origins es → Are n origins es → length es ≡ attached_count attached n origins
  unfolding IsDistinct
  counted n [] es names different part are = ap (λ (l : List Entry). length l) (none_of es part.only)
  counted n (o ∷ os) es names different part are = by_first (attached n) refl (λ fs p a. counted (n + 1) os fs names.1 different.1 p a) (λ k origin there same. not_again o os k origin different.0 there (sym same))
    where
      first_is : attached (n + 0) ≡ attached n
      first_is = ap attached (let z : n + 0 ≡ n = omega arith in z)

      by_first : (b : Bool) → attached n ≡ b → ((fs : List Entry) → IsPart os fs → Are (n + 1) os fs → length fs ≡ attached_count attached (n + 1) os) → ((k : ℕ) (origin : Name) → slice_get os k ≡ Some origin → origin ≡ o → ⊥)
          → length es ≡ cond b 1 0 + attached_count attached (n + 1) os
      by_first false is further not_first =
          let gone : IsAttached es o → ⊥ = subst (λ (b : Bool). IsOrNot b es o) (first_is ∙ is) (are 0 o refl) in
          let rest = further es (record {
            rising = part.rising;
            only = λ e i. (let p = part.only e i in ⊎_elim
                (λ (s : o ≡ p.0). absurd (gone (e, i, ap (λ (x : Entry). x.key) p.2 ∙ ap key_of (sym s))))
                (λ (c : Contains os p.0). (p.0, c, p.2))
                (contains_cases o p.0 os p.1));
          }) (λ k origin there. subst (λ (m : ℕ). IsOrNot (attached m) es origin) (let z : n + suc k ≡ (n + 1) + k = omega arith in z) (are (suc k) origin there)) in
          omega (arith, rest)
      by_first true is further not_first =
          let there_it : IsAttached es o = subst (λ (b : Bool). IsOrNot b es o) (first_is ∙ is) (are 0 o refl) in
          let e = there_it.0 in
          let a = around e es there_it.1 in
          let rises = subst Rises a.whole part.rising in
          let fs = a.before ++ a.after in
          let long : length es ≡ length fs + 1 = (let w = ap (λ (l : List Entry). length l) a.whole in omega (arith, w, length-append a.before (e ∷ a.after), length-append a.before a.after)) in
          let inside : (x : Entry) → InList x fs → InList x es = λ x i. subst (InList x) (sym a.whole) (in_rest a.before a.after e x i) in
          let rest = further fs (record {
            rising = rises_rest a.before a.after e rises;
            only = λ x i. (let p = part.only x (inside x i) in ⊎_elim
                (λ (s : o ≡ p.0). absurd (alone a.before a.after e x rises i (ap (λ (y : Entry). y.key) p.2 ∙ ap key_of (sym s) ∙ sym there_it.2)))
                (λ (c : Contains os p.0). (p.0, c, p.2))
                (contains_cases o p.0 os p.1));
          }) (λ k origin there.
          let was = subst (λ (m : ℕ). IsOrNot (attached m) es origin) (let z : n + suc k ≡ (n + 1) + k = omega arith in z) (are (suc k) origin there) in
          let differ : key_of origin ≢ e.key = λ same. not_first k origin there (key_once origin o (let m = each_in IsName os names.1 origin (contains_at os k origin there) in m.each) names.0.each (same ∙ there_it.2)) in
          less_rest (attached ((n + 1) + k)) origin a.before a.after e es a.whole differ was) in
          omega (arith, rest, long)

-- as many as are attached
pub attached_many : (attached : ℕ → Bool) (origins : List Name) (es : List Entry) → AreApart origins → IsPart origins es → ((zone : ℕ) (origin : Name) → slice_get origins zone ≡ Some origin → IsOrNot (attached zone) es origin) → length es ≡ attached_count attached 0 origins
attached_many attached origins es apart part are =
    counted attached 0 origins es apart.names apart.different part (λ k origin there. subst (λ (m : ℕ). IsOrNot (attached m) es origin) (let z : k ≡ 0 + k = omega arith in z) (are k origin there))
