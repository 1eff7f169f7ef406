-- What the trie's crates say of a changed list is what the operation makes of it.
use Rattle.std.proofs.Common.{◌≡◌, ◌∙◌, ℕ, ◌++◌, Bool, true, false, cond, List, [], ◌∷◌, inl, inr, refl, sym, ap, subst}
use Rattle.std.specs.List.{filter}
use Rattle.std.specs.declared.cmp.Ordering.{Ordering}
use Rattle.std.specs.declared.cmp.Ordering.TheVariants as order
use Rattle.std.specs.Ordering.{is_lt}
use Rattle.zone_model.specs.Keys.{key_cmp}
use Rattle.trie_model.specs.Keys.{Entry, InList, Less, Rises}
use Rattle.trie_model.specs.Changes.{Inserted}
use Rattle.trie_model.proofs.AboveLaws.{cmp_before, before_cmp}
use Rattle.trie_model.proofs.KeyLaws.{in_right}
use Rattle.trie_model.proofs.OrderLaws.{less_not_back}
use Rattle.trie_write.specs.Deletions.{Deleted}
use Rattle.trie_write.specs.Exchanges.{Exchanged}
use Rattle.qp_multi.specs.Operations.{below, above, with_entry, without}

lower_is : (a b : List ℕ) → Less a b → is_lt (key_cmp a b) ≡ true
lower_is a b l = ap is_lt (before_cmp a b l)

not_lower : (a b : List ℕ) → (Less a b → ⊥) → is_lt (key_cmp a b) ≡ false
not_lower a b none = go (key_cmp a b) refl
  where
    go : (o : Ordering) → key_cmp a b ≡ o → is_lt (key_cmp a b) ≡ false
    go order.Less e = absurd (none (cmp_before a b e))
    go order.Equal e = ap is_lt e
    go order.Greater e = ap is_lt e

nothing_behind : (es : List Entry) → es ++ [] ≡ es
nothing_behind [] = refl
nothing_behind (x ∷ es) = ap (λ (xs : List Entry). x ∷ xs) (nothing_behind es)

-- filters

all_pass : (p : Entry → Bool) (es : List Entry) → ((x : Entry) → InList x es → p x ≡ true) → filter p es ≡ es
all_pass p [] h = refl
all_pass p (x ∷ es) h = ap (λ (b : Bool). cond b (x ∷ filter p es) (filter p es)) (h x (inl refl)) ∙ ap (λ (xs : List Entry). x ∷ xs) (all_pass p es (λ y i. h y (inr i)))

none_pass : (p : Entry → Bool) (es : List Entry) → ((x : Entry) → InList x es → p x ≡ false) → filter p es ≡ []
none_pass p [] h = refl
none_pass p (x ∷ es) h = ap (λ (b : Bool). cond b (x ∷ filter p es) (filter p es)) (h x (inl refl)) ∙ none_pass p es (λ y i. h y (inr i))

filter_both : (p : Entry → Bool) (xs ys : List Entry) → filter p (xs ++ ys) ≡ filter p xs ++ filter p ys
filter_both p [] ys = refl
filter_both p (x ∷ xs) ys = go (p x) (filter_both p xs ys)
  where
    go : (b : Bool) → filter p (xs ++ ys) ≡ filter p xs ++ filter p ys → cond b (x ∷ filter p (xs ++ ys)) (filter p (xs ++ ys)) ≡ cond b (x ∷ filter p xs) (filter p xs) ++ filter p ys
    go true more = ap (λ (zs : List Entry). x ∷ zs) more
    go false more = more

-- a list that the key parts: what comes before it, and what comes after it
module _ (key : List ℕ) (before after : List Entry) (lower : (x : Entry) → InList x before → Less x.key key) (upper : (x : Entry) → InList x after → Less key x.key) where
  below_before : below key before ≡ before
  below_before = all_pass (λ (e : Entry). is_lt (key_cmp e.key key)) before (λ x i. lower_is x.key key (lower x i))

  below_after : below key after ≡ []
  below_after = none_pass (λ (e : Entry). is_lt (key_cmp e.key key)) after (λ x i. not_lower x.key key (λ l. less_not_back x.key key l (upper x i)))

  above_before : above key before ≡ []
  above_before = none_pass (λ (e : Entry). is_lt (key_cmp key e.key)) before (λ x i. not_lower key x.key (λ l. less_not_back key x.key l (lower x i)))

  above_after : above key after ≡ after
  above_after = all_pass (λ (e : Entry). is_lt (key_cmp key e.key)) after (λ x i. lower_is key x.key (upper x i))

  -- with or without an entry of the key between them

  below_is : below key (before ++ after) ≡ before
  below_is = filter_both (λ (e : Entry). is_lt (key_cmp e.key key)) before after ∙ (λ i. below_before i ++ below_after i) ∙ nothing_behind before

  above_is : above key (before ++ after) ≡ after
  above_is = filter_both (λ (e : Entry). is_lt (key_cmp key e.key)) before after ∙ (λ i. above_before i ++ above_after i)

  module _ (gone : Entry) (same : gone.key ≡ key) where
    itself : Less key key → ⊥
    itself l = less_not_back key key l l

    below_gone : below key (gone ∷ after) ≡ []
    below_gone = ap (λ (b : Bool). cond b (gone ∷ below key after) (below key after)) (not_lower gone.key key (λ l. itself (subst (λ (k : List ℕ). Less k key) same l))) ∙ below_after

    above_gone : above key (gone ∷ after) ≡ after
    above_gone = ap (λ (b : Bool). cond b (gone ∷ above key after) (above key after)) (not_lower key gone.key (λ l. itself (subst (Less key) same l))) ∙ above_after

    below_all : below key (before ++ (gone ∷ after)) ≡ before
    below_all = filter_both (λ (e : Entry). is_lt (key_cmp e.key key)) before (gone ∷ after) ∙ (λ i. below_before i ++ below_gone i) ∙ nothing_behind before

    above_all : above key (before ++ (gone ∷ after)) ≡ after
    above_all = filter_both (λ (e : Entry). is_lt (key_cmp key e.key)) before (gone ∷ after) ∙ (λ i. above_before i ++ above_gone i)

pub inserted_is : (e : Entry) (old new : List Entry) → Inserted e old new → new ≡ with_entry old e
inserted_is e old new is =
    is.new_is ∙ sym (ap (λ (xs : List Entry). with_entry xs e) is.old_is ∙ (λ i. below_is e.key is.before is.after is.lower is.upper i ++ (e ∷ above_is e.key is.before is.after is.lower is.upper i)))

-- in a list that rises, the entries before one come before it, and those after it after it

rises_lower : (before after : List Entry) (gone : Entry) → Rises (before ++ (gone ∷ after)) → (x : Entry) → InList x before → Less x.key gone.key
rises_lower [] after gone r x i = absurd i
rises_lower (y ∷ before) after gone r x (inl e) = subst (λ (z : Entry). Less z.key gone.key) (sym e) (r.0 gone (in_right gone before (gone ∷ after) (inl refl)))
rises_lower (y ∷ before) after gone r x (inr i) = rises_lower before after gone r.1 x i

rises_upper : (before after : List Entry) (gone : Entry) → Rises (before ++ (gone ∷ after)) → (x : Entry) → InList x after → Less gone.key x.key
rises_upper [] after gone r x i = r.0 x i
rises_upper (y ∷ before) after gone r x i = rises_upper before after gone r.1 x i

module _ (key : List ℕ) (old before after : List Entry) (gone : Entry) (rises : Rises old) (old_is : old ≡ before ++ (gone ∷ after)) (same : gone.key ≡ key) where
  parted : Rises (before ++ (gone ∷ after))
  parted = subst Rises old_is rises

  lower : (x : Entry) → InList x before → Less x.key key
  lower x i = subst (Less x.key) same (rises_lower before after gone parted x i)

  upper : (x : Entry) → InList x after → Less key x.key
  upper x i = subst (λ (k : List ℕ). Less k x.key) same (rises_upper before after gone parted x i)

  put_is : (e : Entry) → e.key ≡ key → with_entry old e ≡ before ++ (e ∷ after)
  put_is e is =
      ap (λ (xs : List Entry). with_entry xs e) old_is
      ∙ ap (λ (k : List ℕ). below k (before ++ (gone ∷ after)) ++ (e ∷ above k (before ++ (gone ∷ after)))) is
      ∙ (λ i. below_all key before after lower upper gone same i ++ (e ∷ above_all key before after lower upper gone same i))

  taken_is : without old key ≡ before ++ after
  taken_is = ap (λ (xs : List Entry). without xs key) old_is ∙ (λ i. below_all key before after lower upper gone same i ++ above_all key before after lower upper gone same i)

pub exchanged_is : (e : Entry) (old new : List Entry) → Rises old → Exchanged e old new → new ≡ with_entry old e
exchanged_is e old new rises is = is.new_is ∙ sym (put_is e.key old is.before is.after is.gone rises is.old_is is.same_key e refl)

pub deleted_is : (key : List ℕ) (old new : List Entry) → Rises old → Deleted key old new → new ≡ without old key
deleted_is key old new rises is = is.removed.new_is ∙ sym (taken_is key old is.removed.before is.removed.after is.gone rises is.removed.old_is is.same_key)
