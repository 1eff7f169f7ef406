-- A version around a name: what comes before it, what it owns, and what comes behind it; and the cells when the name owns something else.
use Rattle.std.proofs.Common.{◌≡◌, ◌∙◌, ◌+◌, ◌-◌, ◌≤◌, cond, List, [], ◌∷◌, ◌++◌, length, Some, unwrap_or, inl, inr, refl, sym, ap, subst, arith}
use Rattle.std.proofs.lemmas.List.{map-append}
use Rattle.std.specs.List.{AllByRecursion}
use Rattle.std.specs.List.Sorted.{IsStrictlySortedBy}
use Rattle.std.specs.Map.{keys_of, remove_entry}
use Rattle.std.specs.BTreeMap.{insert_entry, is_at}
use Rattle.std.specs.declared.cmp.Ordering.{Ordering}
use Rattle.std.specs.declared.cmp.Ordering.TheVariants as order
use Rattle.std.specs.Ordering.{is_eq, ordering_reverse, match_ordering}
use Rattle.zone_model.specs.Names.{Name, IsName, name_cmp}
use Rattle.zone_model.specs.NameOrder.{name_cmp_total}
use Rattle.zone_model.specs.Keys.{key_of}
use Rattle.zone_model.specs.Records.{Rrset, Entry}
use Rattle.zone_model.specs.Versions.{Version, entry_of, owned, put}
use Rattle.zone_model.proofs.NameLemmas.{name_cmp-IsAntisymmetric}
use Rattle.zone_model.proofs.KeyLaws.{key_cmp-key_of}
use Rattle.trie_model.specs.Keys as trie
use Rattle.trie_model.specs.Keys.{InList, Less, Rises}
use Rattle.trie_model.specs.Shape.{cells}
use Rattle.trie_model.proofs.AboveLaws.{cmp_before}
use Rattle.trie_model.proofs.NameLaws.{name_key}
use Rattle.zone_answer.specs.Standing.{IsStorable, IsVersion, trie_entry}
use Rattle.zone_answer.proofs.OwnedLaws.{self_equal}
use Rattle.job_model.specs.Sizes.{trie_entries, cell_count}
use Rattle.need_laws.proofs.CellLaws.{Between, IsSized, one_more, exchanged}
use Rattle.need_laws.proofs.ItemLaws.{item_length, room}

-- ---- the version around a name

-- a name with what it owns; nothing where it owns nothing
abbrev pub standing : Name → Entry → Version
standing name [] = []
standing name (s ∷ entry) = (name, s ∷ entry) ∷ []

pub record Around (name : Name) (version : Version) : Type 0 where
  pub front : Version
  pub back : Version
  pub whole : version ≡ front ++ (standing name (owned name version) ++ back)
  pub becomes : (entry : Entry) → put name entry version ≡ front ++ (standing name entry ++ back)

turned : (a b : Name) → name_cmp a b ≡ order.Less → name_cmp b a ≡ order.Greater
turned a b l = name_cmp_total.antisymm b a ∙ ap ordering_reverse l

-- the names of a version all come behind this one
abbrev Behind : Name → Version → Type 0
Behind name version = AllByRecursion (λ y. name_cmp name y ≡ order.Less) (keys_of version)

none_owned : (name : Name) (version : Version) → Behind name version → owned name version ≡ []
none_owned name [] h = refl
none_owned name (pair ∷ rest) h = ap (λ (o : Ordering). unwrap_or (cond (is_eq o) (Some pair.1) (entry_of name rest)) []) h.0 ∙ none_owned name rest h.1

none_left : (name : Name) (version : Version) → Behind name version → remove_entry (is_at (name_cmp name)) version ≡ version
none_left name [] h = refl
none_left name (pair ∷ rest) h = ap (λ (o : Ordering). cond (is_eq o) rest (pair ∷ remove_entry (is_at (name_cmp name)) rest)) h.0 ∙ ap (λ (v : Version). pair ∷ v) (none_left name rest h.1)

put_first : (name : Name) (s : Rrset) (entry : Entry) (version : Version) → Behind name version → insert_entry name_cmp version name (s ∷ entry) ≡ (name, s ∷ entry) ∷ version
put_first name s entry [] h = refl
put_first name s entry (pair ∷ rest) h =
    ap (λ (o : Ordering). match_ordering o ((name, s ∷ entry) ∷ pair ∷ rest) ((pair.0, s ∷ entry) ∷ rest) (pair ∷ insert_entry name_cmp rest name (s ∷ entry))) h.0

-- it comes before all names
before_all : (name : Name) (version : Version) → Behind name version → Around name version
before_all name version h = record {
  front = [];
  back = version;
  whole = sym (ap (λ (e : Entry). standing name e ++ version) (none_owned name version h));
  becomes = made;
}
  where
    made : (entry : Entry) → put name entry version ≡ [] ++ (standing name entry ++ version)
    made [] = none_left name version h
    made (s ∷ entry) = put_first name s entry version h

behind_more : (a b : Name) (version : Version) → name_cmp a b ≡ order.Less → Behind b version → Behind a version
behind_more a b [] l h = tt
behind_more a b (pair ∷ rest) l h = (name_cmp_total.trans a b pair.0 l h.0, behind_more a b rest l h.1)

-- it is the first name
at_first : (name : Name) (pair : Name × Entry) (rest : Version) → name ≡ pair.0 → IsStorable pair → Around name (pair ∷ rest)
at_first name pair rest same is = record { front = []; back = rest; whole = there; becomes = made }
  where
    equal : name_cmp name pair.0 ≡ order.Equal
    equal = subst (λ (n : Name). name_cmp name n ≡ order.Equal) same (self_equal name)

    owns : owned name (pair ∷ rest) ≡ pair.1
    owns = ap (λ (o : Ordering). unwrap_or (cond (is_eq o) (Some pair.1) (entry_of name rest)) []) equal

    stands : (entry : Entry) → pair.1 ≡ entry → pair ∷ rest ≡ standing name entry ++ rest
    stands [] e = absurd (let some = is.some in let none : length pair.1 ≡ 0 = ap (λ (l : Entry). length l) e in omega arith)
    stands (s ∷ entry) e = ap (λ (n : Name). (n, pair.1) ∷ rest) (sym same) ∙ ap (λ (l : Entry). (name, l) ∷ rest) e

    there : pair ∷ rest ≡ [] ++ (standing name (owned name (pair ∷ rest)) ++ rest)
    there = stands pair.1 refl ∙ ap (λ (l : Entry). standing name l ++ rest) (sym owns)

    made : (entry : Entry) → put name entry (pair ∷ rest) ≡ [] ++ (standing name entry ++ rest)
    made [] = ap (λ (o : Ordering). cond (is_eq o) rest (pair ∷ remove_entry (is_at (name_cmp name)) rest)) equal
    made (s ∷ entry) =
        ap (λ (o : Ordering). match_ordering o ((name, s ∷ entry) ∷ pair ∷ rest) ((pair.0, s ∷ entry) ∷ rest) (pair ∷ insert_entry name_cmp rest name (s ∷ entry))) equal
        ∙ ap (λ (n : Name). (n, s ∷ entry) ∷ rest) (sym same)

-- it comes behind the first name
further : (name : Name) (pair : Name × Entry) (rest : Version) → name_cmp pair.0 name ≡ order.Less → Around name rest → Around name (pair ∷ rest)
further name pair rest l a = record {
  front = pair ∷ a.front;
  back = a.back;
  whole = ap (λ (v : Version). pair ∷ v) a.whole ∙ ap (λ (e : Entry). pair ∷ (a.front ++ (standing name e ++ a.back))) (sym owns);
  becomes = made;
}
  where
    greater : name_cmp name pair.0 ≡ order.Greater
    greater = turned pair.0 name l

    owns : owned name (pair ∷ rest) ≡ owned name rest
    owns = ap (λ (o : Ordering). unwrap_or (cond (is_eq o) (Some pair.1) (entry_of name rest)) []) greater

    made : (entry : Entry) → put name entry (pair ∷ rest) ≡ (pair ∷ a.front) ++ (standing name entry ++ a.back)
    made [] = ap (λ (o : Ordering). cond (is_eq o) rest (pair ∷ remove_entry (is_at (name_cmp name)) rest)) greater ∙ ap (λ (v : Version). pair ∷ v) (a.becomes [])
    made (s ∷ entry) =
        ap (λ (o : Ordering). match_ordering o ((name, s ∷ entry) ∷ pair ∷ rest) ((pair.0, s ∷ entry) ∷ rest) (pair ∷ insert_entry name_cmp rest name (s ∷ entry))) greater
        ∙ ap (λ (v : Version). pair ∷ v) (a.becomes (s ∷ entry))

around : (name : Name) (version : Version) → IsStrictlySortedBy name_cmp (keys_of version) → AllByRecursion IsStorable version → Around name version
unfolding IsStrictlySortedBy
around name [] rising items = before_all name [] tt
around name (pair ∷ rest) rising items = by_order (name_cmp name pair.0) refl (around name rest rising.1 items.1)
  where
    by_order : (o : Ordering) → name_cmp name pair.0 ≡ o → Around name rest → Around name (pair ∷ rest)
    by_order order.Less e more = before_all name (pair ∷ rest) (e, behind_more name pair.0 rest e rising.0)
    by_order order.Equal e more = at_first name pair rest (name_cmp-IsAntisymmetric name pair.0 e) items.0
    by_order order.Greater e more = further name pair rest (name_cmp_total.antisymm pair.0 name ∙ ap ordering_reverse e) more

-- ---- the entries of a version rise, and each has a key and an item

name_less : (a b : Name) → IsName a → IsName b → name_cmp a b ≡ order.Less → Less (key_of a) (key_of b)
name_less a b ia ib l = cmp_before (key_of a) (key_of b) (key_cmp-key_of a b ia.each ib.each ∙ l)

above_all : (name : Name) (version : Version) → IsName name → Behind name version → AllByRecursion IsStorable version → (x : trie.Entry) → InList x (trie_entries version) → Less (key_of name) x.key
above_all name [] is above items x i = absurd i
above_all name (pair ∷ rest) is above items x i = elim i [
  | inl s ↦ subst (λ (y : trie.Entry). Less (key_of name) y.key) (sym s) (name_less name pair.0 is items.0.name above.0)
  | inr r ↦ above_all name rest is above.1 items.1 x r
]

entries_rise : (version : Version) → IsStrictlySortedBy name_cmp (keys_of version) → AllByRecursion IsStorable version → Rises (trie_entries version)
unfolding IsStrictlySortedBy
entries_rise [] rising items = tt
entries_rise (pair ∷ rest) rising items = (above_all pair.0 rest items.0.name rising.0 items.1, entries_rise rest rising.1 items.1)

entries_sized : (version : Version) → AllByRecursion IsStorable version → AllByRecursion IsSized (trie_entries version)
entries_sized [] items = tt
entries_sized (pair ∷ rest) items = (record { key = name_key (key_of pair.0) (pair.0, items.0.name, refl); some = (let l = item_length pair.0 pair.1 in omega (arith, l)); short = items.0.short }, entries_sized rest items.1)

-- ---- the cells when a name owns something else

module _ (name : Name) (front back : Version) where
  split : (s : Rrset) (entry : Entry) → trie_entries (front ++ ((name, s ∷ entry) ∷ back)) ≡ trie_entries front ++ (trie_entry (name, s ∷ entry) ∷ trie_entries back)
  split s entry = map-append trie_entry front ((name, s ∷ entry) ∷ back)

  comes : (s : Rrset) (entry : Entry) → IsVersion (front ++ ((name, s ∷ entry) ∷ back)) → Between (trie_entry (name, s ∷ entry)) (trie_entries (front ++ back)) (trie_entries (front ++ ((name, s ∷ entry) ∷ back)))
  comes s entry v =
      subst (λ (x : List trie.Entry). Between (trie_entry (name, s ∷ entry)) x (trie_entries (front ++ ((name, s ∷ entry) ∷ back)))) (sym (map-append trie_entry front back))
      (subst (λ (x : List trie.Entry). Between (trie_entry (name, s ∷ entry)) (trie_entries front ++ trie_entries back) x) (sym (split s entry))
      (one_more (trie_entries front) (trie_entries back) (trie_entry (name, s ∷ entry))
      (subst (AllByRecursion IsSized) (split s entry) (entries_sized (front ++ ((name, s ∷ entry) ∷ back)) v.items))
      (subst Rises (split s entry) (entries_rise (front ++ ((name, s ∷ entry) ∷ back)) v.rising v.items))))

  other_entry : (own next : Entry) → IsVersion (front ++ (standing name own ++ back)) → IsVersion (front ++ (standing name next ++ back))
      → cell_count (front ++ (standing name next ++ back)) ≤ cell_count (front ++ (standing name own ++ back)) + (room name next - room name own)
  other_entry [] [] v w = omega arith
  other_entry [] (s ∷ next) v w = let most = (comes s next w).1 in omega (arith, most)
  other_entry (t ∷ own) [] v w = let least = (comes t own v).0 in omega (arith, least)
  other_entry (t ∷ own) (s ∷ next) v w =
      let x = exchanged (trie_entries front) (trie_entries back) (trie_entry (name, t ∷ own)) (trie_entry (name, s ∷ next)) refl in
      let a = ap cells (split t own) in
      let b = ap cells (split s next) in
      omega (arith, x, a, b)

pub put_cells : (name : Name) (next : Entry) (version : Version) → IsVersion version → IsVersion (put name next version) → cell_count (put name next version) ≤ cell_count version + (room name next - room name (owned name version))
put_cells name next version v w =
    let a = around name version v.rising v.items in
    let l = other_entry name a.front a.back (owned name version) next (subst IsVersion a.whole v) (subst IsVersion (a.becomes next) w) in
    let old = ap cell_count a.whole in
    let new = ap cell_count (a.becomes next) in
    omega (arith, l, old, new)
