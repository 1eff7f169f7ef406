-- What a change of the trie makes of the version that it stands for.
use Rattle.std.proofs.Common.{◌≡◌, ◌∙◌, Bool, true, false, cond, List, [], ◌∷◌, ◌++◌, inl, inr, refl, sym, ap, subst}
use Rattle.std.specs.List.{AllByRecursion}
use Rattle.std.specs.List.Sorted.{IsStrictlySortedBy}
use Rattle.std.specs.Map.{keys_of, remove_entry}
use Rattle.std.specs.BTreeMap.{insert_entry, is_at}
use Rattle.std.specs.declared.cmp.Ordering.{Ordering}
use Rattle.std.specs.declared.cmp.Ordering.TheVariants as order
use Rattle.std.specs.Ordering.{is_eq, ordering_reverse, match_ordering}
use Rattle.zone_model.specs.Names.{Name, IsName, name_cmp}
use Rattle.zone_model.specs.NameOrder.{name_cmp_total}
use Rattle.zone_model.specs.Keys.{key_of}
use Rattle.zone_model.specs.Records.{Entry}
use Rattle.zone_model.specs.Versions.{Version}
use Rattle.zone_model.proofs.NameLemmas.{name_cmp-IsAntisymmetric}
use Rattle.zone_model.proofs.KeyLaws.{key_once}
use Rattle.trie_model.specs.Keys as trie
use Rattle.trie_model.specs.Changes.{Inserted}
use Rattle.trie_model.proofs.KeyLaws.{in_right}
use Rattle.trie_write.specs.Exchanges.{Exchanged}
use Rattle.trie_write.specs.Deletions.{Deleted}
use Rattle.zone_answer.specs.Standing.{IsStorable, IsVersion, trie_entry}
use Rattle.zone_answer.proofs.KeyOrder.{before_key}
use Rattle.zone_answer.proofs.OwnedLaws.{later_name, self_equal}
use Rattle.job_model.specs.Sizes.{trie_entries}

abbrev List' : Type 0
List' = List trie.Entry

-- ---- three ways in which a name stands to another

pub turned : (a b : Name) → name_cmp a b ≡ order.Less → name_cmp b a ≡ order.Greater
turned a b l = name_cmp_total.antisymm b a ∙ ap ordering_reverse l

pub by_name : (name other : Name) {P : Type 0} → (name_cmp name other ≡ order.Less → P) → (name ≡ other → P) → (name_cmp other name ≡ order.Less → P) → P
by_name name other {P} p q r = by_order (name_cmp name other) refl
  where
    by_order : (o : Ordering) → name_cmp name other ≡ o → P
    by_order order.Less e = p e
    by_order order.Equal e = q (name_cmp-IsAntisymmetric name other e)
    by_order order.Greater e = r (name_cmp_total.antisymm other name ∙ ap ordering_reverse e)

-- ---- the list of a map with an entry put in, by where its name stands

pub put_here : (name : Name) (entry : Entry) (pair : Name × Entry) (rest : Version) → name_cmp name pair.0 ≡ order.Less → insert_entry name_cmp (pair ∷ rest) name entry ≡ (name, entry) ∷ pair ∷ rest
put_here name entry pair rest l = ap (λ (o : Ordering). match_ordering o ((name, entry) ∷ pair ∷ rest) ((pair.0, entry) ∷ rest) (pair ∷ insert_entry name_cmp rest name entry)) l

pub put_over : (name : Name) (entry : Entry) (pair : Name × Entry) (rest : Version) → name ≡ pair.0 → insert_entry name_cmp (pair ∷ rest) name entry ≡ (name, entry) ∷ rest
put_over name entry pair rest same =
    ap (λ (o : Ordering). match_ordering o ((name, entry) ∷ pair ∷ rest) ((pair.0, entry) ∷ rest) (pair ∷ insert_entry name_cmp rest name entry)) (subst (λ (n : Name). name_cmp name n ≡ order.Equal) same (self_equal name))
    ∙ ap (λ (n : Name). (n, entry) ∷ rest) (sym same)

pub put_later : (name : Name) (entry : Entry) (pair : Name × Entry) (rest : Version) → name_cmp pair.0 name ≡ order.Less → insert_entry name_cmp (pair ∷ rest) name entry ≡ pair ∷ insert_entry name_cmp rest name entry
put_later name entry pair rest l = ap (λ (o : Ordering). match_ordering o ((name, entry) ∷ pair ∷ rest) ((pair.0, entry) ∷ rest) (pair ∷ insert_entry name_cmp rest name entry)) (turned pair.0 name l)

pub gone_here : (name : Name) (pair : Name × Entry) (rest : Version) → name ≡ pair.0 → remove_entry (is_at (name_cmp name)) (pair ∷ rest) ≡ rest
gone_here name pair rest same = ap (λ (b : Bool). cond b rest (pair ∷ remove_entry (is_at (name_cmp name)) rest)) (subst (λ (n : Name). is_eq (name_cmp name n) ≡ true) same (ap is_eq (self_equal name)))

pub gone_later : (name : Name) (pair : Name × Entry) (rest : Version) → name_cmp pair.0 name ≡ order.Less → remove_entry (is_at (name_cmp name)) (pair ∷ rest) ≡ pair ∷ remove_entry (is_at (name_cmp name)) rest
gone_later name pair rest l = ap (λ (b : Bool). cond b rest (pair ∷ remove_entry (is_at (name_cmp name)) rest)) (ap is_eq (turned pair.0 name l))

-- ---- the changed list is the changed version's

below_name : (e : trie.Entry) (pair : Name × Entry) (name : Name) → IsStorable pair → IsName name → trie_entry pair ≡ e → trie.Less e.key (key_of name) → name_cmp pair.0 name ≡ order.Less
below_name e pair name s is same l = before_key pair.0 name s.name.each is.each (subst (λ (x : trie.Entry). trie.Less x.key (key_of name)) (sym same) l)

put_in : (name : Name) (entry : Entry) (version : Version) (before after : List') → IsName name → AllByRecursion IsStorable version → trie_entries version ≡ before ++ after
    → ((x : trie.Entry) → trie.InList x before → trie.Less x.key (key_of name)) → ((x : trie.Entry) → trie.InList x after → trie.Less (key_of name) x.key)
    → before ++ (trie_entry (name, entry) ∷ after) ≡ trie_entries (insert_entry name_cmp version name entry)
put_in name entry [] [] after is items e lower upper = ap (λ (l : List'). trie_entry (name, entry) ∷ l) (sym e)
put_in name entry [] (b ∷ bs) after is items e lower upper = absurd cc
put_in name entry (pair ∷ rest) [] after is items e lower upper =
    let less : trie.Less (key_of name) (key_of pair.0) = upper (trie_entry pair) (subst (trie.InList (trie_entry pair)) e (inl refl)) in
    ap (λ (l : List'). trie_entry (name, entry) ∷ l) (sym e) ∙ sym (ap trie_entries (put_here name entry pair rest (before_key name pair.0 is.each items.0.name.each less)))
put_in name entry (pair ∷ rest) (b ∷ bs) after is items e lower upper =
    let head : trie_entry pair ≡ b = cc in
    let tail : trie_entries rest ≡ bs ++ after = cc in
    let l = below_name b pair name items.0 is head (lower b (inl refl)) in
    ap (λ (x : trie.Entry). x ∷ (bs ++ (trie_entry (name, entry) ∷ after))) (sym head)
    ∙ ap (λ (l : List'). trie_entry pair ∷ l) (put_in name entry rest bs after is items.1 tail (λ x i. lower x (inr i)) upper)
    ∙ sym (ap trie_entries (put_later name entry pair rest l))

name_of_key : (e : trie.Entry) (pair : Name × Entry) (name : Name) → IsStorable pair → IsName name → trie_entry pair ≡ e → e.key ≡ key_of name → name ≡ pair.0
name_of_key e pair name s is same k = sym (key_once pair.0 name s.name.each is.each (ap (λ (x : trie.Entry). x.key) same ∙ k))

-- a pair before the one of a name
earlier : (name : Name) (pair : Name × Entry) (rest : Version) (bs after : List') (gone : trie.Entry) → IsName name → AllByRecursion IsStorable rest → AllByRecursion (λ y. name_cmp pair.0 y ≡ order.Less) (keys_of rest) → trie_entries rest ≡ bs ++ (gone ∷ after) → gone.key ≡ key_of name → name_cmp pair.0 name ≡ order.Less
earlier name pair rest bs after gone is items above tail k = later_name pair.0 name gone rest is items above (subst (trie.InList gone) (sym tail) (in_right gone bs (gone ∷ after) (inl refl))) k

exchange_in : (name : Name) (entry : Entry) (version : Version) (before after : List') (gone : trie.Entry) → IsName name → IsStrictlySortedBy name_cmp (keys_of version) → AllByRecursion IsStorable version → trie_entries version ≡ before ++ (gone ∷ after) → gone.key ≡ key_of name
    → before ++ (trie_entry (name, entry) ∷ after) ≡ trie_entries (insert_entry name_cmp version name entry)
unfolding IsStrictlySortedBy
exchange_in name entry [] [] after gone is rising items e k = absurd cc
exchange_in name entry [] (b ∷ bs) after gone is rising items e k = absurd cc
exchange_in name entry (pair ∷ rest) [] after gone is rising items e k =
    let head : trie_entry pair ≡ gone = cc in
    let tail : trie_entries rest ≡ after = cc in
    ap (λ (l : List'). trie_entry (name, entry) ∷ l) (sym tail) ∙ sym (ap trie_entries (put_over name entry pair rest (name_of_key gone pair name items.0 is head k)))
exchange_in name entry (pair ∷ rest) (b ∷ bs) after gone is rising items e k =
    let head : trie_entry pair ≡ b = cc in
    let tail : trie_entries rest ≡ bs ++ (gone ∷ after) = cc in
    let l = earlier name pair rest bs after gone is items.1 rising.0 tail k in
    ap (λ (x : trie.Entry). x ∷ (bs ++ (trie_entry (name, entry) ∷ after))) (sym head)
    ∙ ap (λ (l : List'). trie_entry pair ∷ l) (exchange_in name entry rest bs after gone is rising.1 items.1 tail k)
    ∙ sym (ap trie_entries (put_later name entry pair rest l))

take_out : (name : Name) (version : Version) (before after : List') (gone : trie.Entry) → IsName name → IsStrictlySortedBy name_cmp (keys_of version) → AllByRecursion IsStorable version → trie_entries version ≡ before ++ (gone ∷ after) → gone.key ≡ key_of name
    → before ++ after ≡ trie_entries (remove_entry (is_at (name_cmp name)) version)
unfolding IsStrictlySortedBy
take_out name [] [] after gone is rising items e k = absurd cc
take_out name [] (b ∷ bs) after gone is rising items e k = absurd cc
take_out name (pair ∷ rest) [] after gone is rising items e k =
    let head : trie_entry pair ≡ gone = cc in
    let tail : trie_entries rest ≡ after = cc in
    sym tail ∙ sym (ap trie_entries (gone_here name pair rest (name_of_key gone pair name items.0 is head k)))
take_out name (pair ∷ rest) (b ∷ bs) after gone is rising items e k =
    let head : trie_entry pair ≡ b = cc in
    let tail : trie_entries rest ≡ bs ++ (gone ∷ after) = cc in
    let l = earlier name pair rest bs after gone is items.1 rising.0 tail k in
    ap (λ (x : trie.Entry). x ∷ (bs ++ after)) (sym head) ∙ ap (λ (l : List'). trie_entry pair ∷ l) (take_out name rest bs after gone is rising.1 items.1 tail k)
    ∙ sym (ap trie_entries (gone_later name pair rest l))

pub inserted_is : (name : Name) (entry : Entry) (version : Version) (next : List') → IsName name → IsVersion version → Inserted (trie_entry (name, entry)) (trie_entries version) next → next ≡ trie_entries (insert_entry name_cmp version name entry)
inserted_is name entry version next is v i = i.new_is ∙ put_in name entry version i.before i.after is v.items i.old_is i.lower i.upper

pub exchanged_is : (name : Name) (entry : Entry) (version : Version) (next : List') → IsName name → IsVersion version → Exchanged (trie_entry (name, entry)) (trie_entries version) next → next ≡ trie_entries (insert_entry name_cmp version name entry)
exchanged_is name entry version next is v x = x.new_is ∙ exchange_in name entry version x.before x.after x.gone is v.rising v.items x.old_is x.same_key

pub deleted_is : (name : Name) (version : Version) (next : List') → IsName name → IsVersion version → Deleted (key_of name) (trie_entries version) next → next ≡ trie_entries (remove_entry (is_at (name_cmp name)) version)
deleted_is name version next is v d = d.removed.new_is ∙ take_out name version d.removed.before d.removed.after d.gone is v.rising v.items d.removed.old_is d.same_key

-- ---- the changed version is one

module _ (P : Name → Type 0) where
  all_put : (name : Name) (entry : Entry) (version : Version) → P name → AllByRecursion P (keys_of version) → AllByRecursion P (keys_of (insert_entry name_cmp version name entry))
  all_put name entry [] p a = (p, tt)
  all_put name entry (pair ∷ rest) p a =
      by_name name pair.0
      (λ l. subst (λ (v : Version). AllByRecursion P (keys_of v)) (sym (put_here name entry pair rest l)) (p, a))
      (λ same. subst (λ (v : Version). AllByRecursion P (keys_of v)) (sym (put_over name entry pair rest same)) (p, a.1))
      (λ l. subst (λ (v : Version). AllByRecursion P (keys_of v)) (sym (put_later name entry pair rest l)) (a.0, all_put name entry rest p a.1))

  all_gone : (name : Name) (version : Version) → AllByRecursion P (keys_of version) → AllByRecursion P (keys_of (remove_entry (is_at (name_cmp name)) version))
  all_gone name [] a = tt
  all_gone name (pair ∷ rest) a = by_test (all_gone name rest a.1) (is_eq (name_cmp name pair.0)) refl
    where
      by_test : AllByRecursion P (keys_of (remove_entry (is_at (name_cmp name)) rest)) → (b : Bool) → is_eq (name_cmp name pair.0) ≡ b → AllByRecursion P (keys_of (cond (is_eq (name_cmp name pair.0)) rest (pair ∷ remove_entry (is_at (name_cmp name)) rest)))
      by_test further true e = subst (λ (b : Bool). AllByRecursion P (keys_of (cond b rest (pair ∷ remove_entry (is_at (name_cmp name)) rest)))) (sym e) a.1
      by_test further false e = subst (λ (b : Bool). AllByRecursion P (keys_of (cond b rest (pair ∷ remove_entry (is_at (name_cmp name)) rest)))) (sym e) (a.0, further)

pub after_all : (name other : Name) (names : List Name) → name_cmp name other ≡ order.Less → AllByRecursion (λ y. name_cmp other y ≡ order.Less) names → AllByRecursion (λ y. name_cmp name y ≡ order.Less) names
after_all name other [] l a = tt
after_all name other (y ∷ ys) l a = (name_cmp_total.trans name other y l a.0, after_all name other ys l a.1)

rising_put : (name : Name) (entry : Entry) (version : Version) → IsStrictlySortedBy name_cmp (keys_of version) → IsStrictlySortedBy name_cmp (keys_of (insert_entry name_cmp version name entry))
unfolding IsStrictlySortedBy
rising_put name entry [] r = (tt, tt)
rising_put name entry (pair ∷ rest) r =
    by_name name pair.0
    (λ l. subst (λ (v : Version). IsStrictlySortedBy name_cmp (keys_of v)) (sym (put_here name entry pair rest l)) ((l, after_all name pair.0 (keys_of rest) l r.0), r))
    (λ same. subst (λ (v : Version). IsStrictlySortedBy name_cmp (keys_of v)) (sym (put_over name entry pair rest same)) (subst (λ (n : Name). AllByRecursion (λ y. name_cmp n y ≡ order.Less) (keys_of rest)) (sym same) r.0, r.1))
    (λ l. subst (λ (v : Version). IsStrictlySortedBy name_cmp (keys_of v)) (sym (put_later name entry pair rest l)) (all_put (λ y. name_cmp pair.0 y ≡ order.Less) name entry rest l r.0, rising_put name entry rest r.1))

rising_gone : (name : Name) (version : Version) → IsStrictlySortedBy name_cmp (keys_of version) → IsStrictlySortedBy name_cmp (keys_of (remove_entry (is_at (name_cmp name)) version))
unfolding IsStrictlySortedBy
rising_gone name [] r = tt
rising_gone name (pair ∷ rest) r = by_test (all_gone (λ y. name_cmp pair.0 y ≡ order.Less) name rest r.0, rising_gone name rest r.1) (is_eq (name_cmp name pair.0)) refl
  where
    by_test : IsStrictlySortedBy name_cmp (keys_of (pair ∷ remove_entry (is_at (name_cmp name)) rest)) → (b : Bool) → is_eq (name_cmp name pair.0) ≡ b → IsStrictlySortedBy name_cmp (keys_of (cond (is_eq (name_cmp name pair.0)) rest (pair ∷ remove_entry (is_at (name_cmp name)) rest)))
    by_test further true e = subst (λ (b : Bool). IsStrictlySortedBy name_cmp (keys_of (cond b rest (pair ∷ remove_entry (is_at (name_cmp name)) rest)))) (sym e) r.1
    by_test further false e = subst (λ (b : Bool). IsStrictlySortedBy name_cmp (keys_of (cond b rest (pair ∷ remove_entry (is_at (name_cmp name)) rest)))) (sym e) further

items_put : (name : Name) (entry : Entry) (version : Version) → IsStorable (name, entry) → AllByRecursion IsStorable version → AllByRecursion IsStorable (insert_entry name_cmp version name entry)
items_put name entry [] s a = (s, tt)
items_put name entry (pair ∷ rest) s a =
    by_name name pair.0
    (λ l. subst (AllByRecursion IsStorable) (sym (put_here name entry pair rest l)) (s, a))
    (λ same. subst (AllByRecursion IsStorable) (sym (put_over name entry pair rest same)) (s, a.1))
    (λ l. subst (AllByRecursion IsStorable) (sym (put_later name entry pair rest l)) (a.0, items_put name entry rest s a.1))

items_gone : (name : Name) (version : Version) → AllByRecursion IsStorable version → AllByRecursion IsStorable (remove_entry (is_at (name_cmp name)) version)
items_gone name [] a = tt
items_gone name (pair ∷ rest) a = by_test (items_gone name rest a.1) (is_eq (name_cmp name pair.0)) refl
  where
    by_test : AllByRecursion IsStorable (remove_entry (is_at (name_cmp name)) rest) → (b : Bool) → is_eq (name_cmp name pair.0) ≡ b → AllByRecursion IsStorable (cond (is_eq (name_cmp name pair.0)) rest (pair ∷ remove_entry (is_at (name_cmp name)) rest))
    by_test further true e = subst (λ (b : Bool). AllByRecursion IsStorable (cond b rest (pair ∷ remove_entry (is_at (name_cmp name)) rest))) (sym e) a.1
    by_test further false e = subst (λ (b : Bool). AllByRecursion IsStorable (cond b rest (pair ∷ remove_entry (is_at (name_cmp name)) rest))) (sym e) (a.0, further)

pub version_put : (name : Name) (entry : Entry) (version : Version) → IsStorable (name, entry) → IsVersion version → IsVersion (insert_entry name_cmp version name entry)
version_put name entry version s v = record { rising = rising_put name entry version v.rising; items = items_put name entry version s v.items }

pub version_gone : (name : Name) (version : Version) → IsVersion version → IsVersion (remove_entry (is_at (name_cmp name)) version)
version_gone name version v = record { rising = rising_gone name version v.rising; items = items_gone name version v.items }
