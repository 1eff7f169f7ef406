-- Which origins a version has behind a change of the table.
use Rattle.std.proofs.Common.{◌≡◌, ◌≢◌, ◌∙◌, ◌⊎◌, inl, inr, ⊎_elim, ℕ, Bool, true, false, cond, List, [], ◌∷◌, ◌++◌, refl, sym, ap, subst}
use Rattle.std.specs.List.{filter}
use Rattle.std.specs.declared.cmp.Ordering.{Ordering}
use Rattle.std.specs.declared.cmp.Ordering.TheVariants as order
use Rattle.std.specs.Ordering.{is_lt, is_eq, ordering_reverse}
use Rattle.zone_model.specs.Names.{Name, IsName, name_cmp}
use Rattle.zone_model.specs.NameOrder.{name_cmp_total}
use Rattle.zone_model.specs.Keys.{key_of, key_cmp}
use Rattle.zone_model.proofs.KeyLaws.{key_cmp-key_of, key_once}
use Rattle.zone_model.proofs.NameLemmas.{same_name-true}
use Rattle.trie_model.specs.Keys.{Entry, InList}
use Rattle.trie_model.proofs.AboveLaws.{cmp_before}
use Rattle.trie_model.proofs.OrderLaws.{less_not_back}
use Rattle.qp_multi.specs.Operations.{below, above, applied}
use Rattle.zone_table.specs.Tables.{IsAttached, entry_for}
use Rattle.zones_threads.specs.Steps.{IsOrNot, operation_for}

-- ---- lists

in_left : (xs ys : List Entry) (e : Entry) → InList e xs → InList e (xs ++ ys)
in_left [] ys e i = absurd i
in_left (x ∷ xs) ys e (inl s) = inl s
in_left (x ∷ xs) ys e (inr i) = inr (in_left xs ys e i)

in_right : (xs ys : List Entry) (e : Entry) → InList e ys → InList e (xs ++ ys)
in_right [] ys e i = i
in_right (x ∷ xs) ys e i = inr (in_right xs ys e i)

in_either : (xs ys : List Entry) (e : Entry) → InList e (xs ++ ys) → InList e xs ⊎ InList e ys
in_either [] ys e i = inr i
in_either (x ∷ xs) ys e (inl s) = inl (inl s)
in_either (x ∷ xs) ys e (inr i) = ⊎_elim (λ (l : InList e xs). inl (inr l)) (λ (r : InList e ys). inr r) (in_either xs ys e i)

passed : (p : Entry → Bool) (es : List Entry) (e : Entry) → InList e (filter p es) → InList e es × (p e ≡ true)
passed p [] e i = absurd i
passed p (x ∷ es) e i = by_test (λ j. passed p es e j) (p x) refl i
  where
    by_test : (InList e (filter p es) → InList e es × (p e ≡ true)) → (b : Bool) → p x ≡ b → InList e (cond b (x ∷ filter p es) (filter p es)) → InList e (x ∷ es) × (p e ≡ true)
    by_test further true t (inl s) = (inl s, subst (λ (y : Entry). p y ≡ true) (sym s) t)
    by_test further true t (inr j) = let r = further j in (inr r.0, r.1)
    by_test further false t j = let r = further j in (inr r.0, r.1)

passes : (p : Entry → Bool) (es : List Entry) (e : Entry) → InList e es → p e ≡ true → InList e (filter p es)
passes p [] e i t = absurd i
passes p (x ∷ es) e (inl s) t = subst (λ (b : Bool). InList e (cond b (x ∷ filter p es) (filter p es))) (sym (subst (λ (y : Entry). p y ≡ true) s t)) (inl s)
passes p (x ∷ es) e (inr i) t = by_test (p x) (passes p es e i t)
  where
    by_test : (b : Bool) → InList e (filter p es) → InList e (cond b (x ∷ filter p es) (filter p es))
    by_test true j = inr j
    by_test false j = j

-- ---- keys

less_is : (o : Ordering) → is_lt o ≡ true → o ≡ order.Less
less_is order.Less t = refl
less_is order.Equal t = absurd cc
less_is order.Greater t = absurd cc

not_itself : (key : List ℕ) → is_lt (key_cmp key key) ≡ true → ⊥
not_itself key t = let less = cmp_before key key (less_is (key_cmp key key) t) in less_not_back key key less less

-- two origins that differ
module _ (origin other : Name) (is_origin : IsName origin) (is_other : IsName other) (differ : other ≢ origin) where
  apart : (is_lt (key_cmp (key_of other) (key_of origin)) ≡ true) ⊎ (is_lt (key_cmp (key_of origin) (key_of other)) ≡ true)
  apart = by_order (name_cmp other origin) refl
    where
      by_order : (o : Ordering) → name_cmp other origin ≡ o → (is_lt (key_cmp (key_of other) (key_of origin)) ≡ true) ⊎ (is_lt (key_cmp (key_of origin) (key_of other)) ≡ true)
      by_order order.Less e = inl (ap is_lt (key_cmp-key_of other origin is_other.each is_origin.each ∙ e))
      by_order order.Equal e = absurd (differ (same_name-true other origin (ap is_eq e)))
      by_order order.Greater e = inr (ap is_lt (key_cmp-key_of origin other is_origin.each is_other.each ∙ name_cmp_total.antisymm origin other ∙ ap ordering_reverse e))

  keys_differ : key_of other ≡ key_of origin → ⊥
  keys_differ e = differ (key_once other origin is_other.each is_origin.each e)

  -- an entry of the other one stands before or behind the origin's place
  stays : (es : List Entry) (e : Entry) → InList e es → e.key ≡ key_of other → InList e (below (key_of origin) es) ⊎ InList e (above (key_of origin) es)
  stays es e i key = ⊎_elim
      (λ (l : is_lt (key_cmp (key_of other) (key_of origin)) ≡ true). inl (passes (λ (x : Entry). is_lt (key_cmp x.key (key_of origin))) es e i (subst (λ k. is_lt (key_cmp k (key_of origin)) ≡ true) (sym key) l)))
      (λ (r : is_lt (key_cmp (key_of origin) (key_of other)) ≡ true). inr (passes (λ (x : Entry). is_lt (key_cmp (key_of origin) x.key)) es e i (subst (λ k. is_lt (key_cmp (key_of origin) k) ≡ true) (sym key) r)))
      apart

  still_there : (attaches : Bool) (es : List Entry) → IsAttached es other → IsAttached (applied es (operation_for attaches origin ∷ [])) other
  still_there true es a = (
    a.0,
    ⊎_elim
        (λ (l : InList a.0 (below (key_of origin) es)). in_left (below (key_of origin) es) (entry_for origin ∷ above (key_of origin) es) a.0 l)
        (λ (r : InList a.0 (above (key_of origin) es)). in_right (below (key_of origin) es) (entry_for origin ∷ above (key_of origin) es) a.0 (inr r))
        (stays es a.0 a.1 a.2),
    a.2,
  )
  still_there false es a = (
    a.0,
    ⊎_elim
        (λ (l : InList a.0 (below (key_of origin) es)). in_left (below (key_of origin) es) (above (key_of origin) es) a.0 l)
        (λ (r : InList a.0 (above (key_of origin) es)). in_right (below (key_of origin) es) (above (key_of origin) es) a.0 r)
        (stays es a.0 a.1 a.2),
    a.2,
  )

  was_below : (es : List Entry) (e : Entry) → InList e (below (key_of origin) es) → InList e es
  was_below es e i = let r = passed (λ (x : Entry). is_lt (key_cmp x.key (key_of origin))) es e i in r.0

  was_above : (es : List Entry) (e : Entry) → InList e (above (key_of origin) es) → InList e es
  was_above es e i = let r = passed (λ (x : Entry). is_lt (key_cmp (key_of origin) x.key)) es e i in r.0

  was_there : (attaches : Bool) (es : List Entry) → IsAttached (applied es (operation_for attaches origin ∷ [])) other → IsAttached es other
  was_there true es a = (
    a.0,
    ⊎_elim
        (λ (l : InList a.0 (below (key_of origin) es)). was_below es a.0 l)
        (λ (r : InList a.0 (entry_for origin ∷ above (key_of origin) es)). ⊎_elim
        (λ (s : a.0 ≡ entry_for origin). absurd (keys_differ (sym a.2 ∙ ap (λ (x : Entry). x.key) s)))
        (λ (m : InList a.0 (above (key_of origin) es)). was_above es a.0 m) r)
        (in_either (below (key_of origin) es) (entry_for origin ∷ above (key_of origin) es) a.0 a.1),
    a.2,
  )
  was_there false es a = (
    a.0,
    ⊎_elim
        (λ (l : InList a.0 (below (key_of origin) es)). was_below es a.0 l)
        (λ (r : InList a.0 (above (key_of origin) es)). was_above es a.0 r)
        (in_either (below (key_of origin) es) (above (key_of origin) es) a.0 a.1),
    a.2,
  )

  -- the other is as it was
  pub other_same : (attaches before : Bool) (es : List Entry) → IsOrNot before es other → IsOrNot before (applied es (operation_for attaches origin ∷ [])) other
  other_same attaches true es h = still_there attaches es h
  other_same attaches false es h = λ a. h (was_there attaches es a)

-- the origin itself is as it was to be
pub itself_changed : (attaches : Bool) (origin : Name) (es : List Entry) → IsOrNot attaches (applied es (operation_for attaches origin ∷ [])) origin
itself_changed true origin es = (entry_for origin, in_right (below (key_of origin) es) (entry_for origin ∷ above (key_of origin) es) (entry_for origin) (inl refl), refl)
itself_changed false origin es = λ a. ⊎_elim
    (λ (l : InList a.0 (below (key_of origin) es)).
    let r = passed (λ (x : Entry). is_lt (key_cmp x.key (key_of origin))) es a.0 l in
    not_itself (key_of origin) (subst (λ k. is_lt (key_cmp k (key_of origin)) ≡ true) a.2 r.1))
    (λ (u : InList a.0 (above (key_of origin) es)).
    let r = passed (λ (x : Entry). is_lt (key_cmp (key_of origin) x.key)) es a.0 u in
    not_itself (key_of origin) (subst (λ k. is_lt (key_cmp (key_of origin) k) ≡ true) a.2 r.1))
    (in_either (below (key_of origin) es) (above (key_of origin) es) a.0 a.1)
