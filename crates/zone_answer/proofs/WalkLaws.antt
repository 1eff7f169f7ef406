-- Names that an iterator has passed, and those that are left.
use Rattle.std.proofs.Common.{◌≡◌, ◌∙◌, ℕ, ◌≤◌, Bool, true, false, not, List, [], ◌∷◌, ◌++◌, ◌⊎◌, inl, inr, length, map, take, reverse, refl, sym, ap, subst}
use Rattle.std.proofs.lemmas.List.{map-append, append_assoc, reverse-append, append-nil, take_all}
use Rattle.std.specs.List.{AllByRecursion, filter}
use Rattle.std.specs.Map.{keys_of}
use Rattle.std.specs.Ordering.{is_lt, is_gt, ordering_reverse}
use Rattle.std.specs.declared.cmp.Ordering.{Ordering}
use Rattle.std.specs.declared.cmp.Ordering.TheVariants as order
use Rattle.zone_model.specs.Names.{Name, IsName, name_cmp}
use Rattle.zone_model.specs.NameOrder.{name_cmp_total}
use Rattle.zone_model.specs.Keys.{key_of}
use Rattle.zone_model.specs.Records as records
use Rattle.zone_model.specs.Versions.{Version}
use Rattle.zone_model.proofs.KeyLaws.{key_once}
use Rattle.packed_node.specs.declared.Leaf.{Leaf}
use Rattle.trie_model.specs.Keys.{Entry, InList}
use Rattle.zone_answer.proofs.KeyOrder.{before_key, up_to_key}
use Rattle.zone_answer.specs.Around.{before, from}
use Rattle.zone_answer.proofs.FilterLaws.{all_pass, none_pass, each, other_all}
use Rattle.std.proofs.lemmas.List.Elements.{filter-append}
use Rattle.trie_read.specs.Readings.{IsStanding, AtSplit}
use Rattle.zone_answer.specs.Standing.{IsStorable, IsVersion, trie_entry}
use Rattle.zone_answer.proofs.SplitLaws.{last_or_none, parted, all_front, all_back}

-- these names were passed, and behind the place are those that are left
pub record Walked (stands : List Entry → List Entry → Type 0) (names all : List Name) : Type 0 where
  pub before : List Entry
  pub left : Version
  pub items : AllByRecursion IsStorable left
  pub standing : stands before (map trie_entry left)
  pub whole : names ++ keys_of left ≡ all

-- the same backwards
pub record Backed (stands : List Entry → List Entry → Type 0) (names all : List Name) : Type 0 where
  pub after : List Entry
  pub left : Version
  pub items : AllByRecursion IsStorable left
  pub standing : stands (map trie_entry left) after
  pub whole : names ++ reverse (keys_of left) ≡ all

-- ---- forwards

pub walked_on : (old new : List Entry → List Entry → Type 0) (names all : List Name) (name : Name) → IsName name → Walked old names all →
    ((before after : List Entry) (e : Entry) → old before (e ∷ after) → key_of name ≡ e.key) → ((before : List Entry) → old before [] → ⊥) →
    ((before after : List Entry) (e : Entry) → old before (e ∷ after) → new (before ++ e ∷ []) after) → Walked new (names ++ name ∷ []) all
walked_on old new names all name is w next end passed = by_left w.left w.items w.standing w.whole
  where
    by_left : (left : Version) → AllByRecursion IsStorable left → old w.before (map trie_entry left) → names ++ keys_of left ≡ all → Walked new (names ++ name ∷ []) all
    by_left [] items s whole = absurd (end w.before s)
    by_left (pair ∷ left) items s whole =
        let keys : key_of name ≡ key_of pair.0 = next w.before (map trie_entry left) (trie_entry pair) s in
        let same : name ≡ pair.0 = key_once name pair.0 is.each items.0.name.each keys in
        record {
          before = w.before ++ trie_entry pair ∷ [];
          left = left;
          items = items.1;
          standing = passed w.before (map trie_entry left) (trie_entry pair) s;
          whole = append_assoc names (name ∷ []) (keys_of left) ∙ ap (λ (n : Name). names ++ n ∷ keys_of left) same ∙ whole;
        }

-- nothing comes next, so these are all; and of all, a part of that length
pub walked_out : (old : List Entry → List Entry → Type 0) (names all : List Name) → Walked old names all → ((before after : List Entry) (e : Entry) → old before (e ∷ after) → ⊥) → names ≡ all
walked_out old names all w never = by_left w.left w.standing w.whole
  where
    by_left : (left : Version) → old w.before (map trie_entry left) → names ++ keys_of left ≡ all → names ≡ all
    by_left [] s whole = sym (append-nil names) ∙ whole
    by_left (pair ∷ left) s whole = absurd (never w.before (map trie_entry left) (trie_entry pair) s)

pub standing_on : (old new : List Entry → List Entry → Type 0) → IsStanding old → ((before : List Entry) → old before [] → ⊥) →
    ((before after : List Entry) (e : Entry) → old before (e ∷ after) → new (before ++ e ∷ []) after) → IsStanding new
standing_on old new s end passed = by_after s.1.0 s.1.1
  where
    by_after : (after : List Entry) → old s.0 after → IsStanding new
    by_after [] x = absurd (end s.0 x)
    by_after (e ∷ after) x = (s.0 ++ e ∷ [], (after, passed s.0 after e x))

-- the leaf of the entry that an iterator has before it
pub faced_leaf : (stands : List Entry → List Entry → Type 0) (lies : Leaf → Entry → Type 0) (leaf : Leaf) → IsStanding stands → ((before after : List Entry) (e : Entry) → stands before (e ∷ after) → lies leaf e) → ((before : List Entry) → stands before [] → ⊥) → (e : Entry) × lies leaf e
faced_leaf stands lies leaf s next end = by_after s.1.0 s.1.1
  where
    by_after : (after : List Entry) → stands s.0 after → (e : Entry) × lies leaf e
    by_after [] x = absurd (end s.0 x)
    by_after (e ∷ after) x = (e, next s.0 after e x)

-- ---- backwards

all_but_last : (rest : Version) (pair : Name × records.Entry) → AllByRecursion IsStorable (rest ++ pair ∷ []) → AllByRecursion IsStorable rest × IsStorable pair
all_but_last [] pair h = (tt, h.0)
all_but_last (x ∷ rest) pair h = let i = all_but_last rest pair h.1 in ((h.0, i.0), i.1)

pub keys-append : (a b : Version) → keys_of (a ++ b) ≡ keys_of a ++ keys_of b
keys-append [] b = refl
keys-append (pair ∷ a) b = ap (λ (names : List Name). pair.0 ∷ names) (keys-append a b)

turned : (rest : Version) (pair : Name × records.Entry) → reverse (keys_of (rest ++ pair ∷ [])) ≡ pair.0 ∷ reverse (keys_of rest)
turned rest pair = ap (λ (names : List Name). reverse names) (keys-append rest (pair ∷ [])) ∙ reverse-append (keys_of rest) (pair.0 ∷ [])

pub backed_on : (old new : List Entry → List Entry → Type 0) (names all : List Name) (name : Name) → IsName name → Backed old names all →
    ((before after : List Entry) (e : Entry) → old (before ++ e ∷ []) after → key_of name ≡ e.key) → ((after : List Entry) → old [] after → ⊥) →
    ((before after : List Entry) (e : Entry) → old (before ++ e ∷ []) after → new before (e ∷ after)) → Backed new (names ++ name ∷ []) all
backed_on old new names all name is w prev beginning passed = elim (last_or_none w.left) [
  | inl e ↦ absurd (beginning w.after (subst (λ (v : Version). old (map trie_entry v) w.after) e w.standing))
  | inr x ↦ (
      let s = subst (λ (v : List Entry). old v w.after) (map-append trie_entry x.rest (x.pair ∷ [])) (subst (λ (v : Version). old (map trie_entry v) w.after) x.is w.standing) in
      let items = all_but_last x.rest x.pair (subst (AllByRecursion IsStorable) x.is w.items) in
      let keys : key_of name ≡ key_of x.pair.0 = prev (map trie_entry x.rest) w.after (trie_entry x.pair) s in
      let same : name ≡ x.pair.0 = key_once name x.pair.0 is.each items.1.name.each keys in
      let whole : names ++ x.pair.0 ∷ reverse (keys_of x.rest) ≡ all = ap (λ (l : List Name). names ++ l) (sym (turned x.rest x.pair)) ∙ ap (λ (v : Version). names ++ reverse (keys_of v)) (sym x.is) ∙ w.whole in
      record {
        after = trie_entry x.pair ∷ w.after;
        left = x.rest;
        items = items.0;
        standing = passed (map trie_entry x.rest) w.after (trie_entry x.pair) s;
        whole = append_assoc names (name ∷ []) (reverse (keys_of x.rest)) ∙ ap (λ (n : Name). names ++ n ∷ reverse (keys_of x.rest)) same ∙ whole;
      }
      )
]

pub backed_out : (old : List Entry → List Entry → Type 0) (names all : List Name) → Backed old names all → ((before after : List Entry) (e : Entry) → old (before ++ e ∷ []) after → ⊥) → names ≡ all
backed_out old names all w never = elim (last_or_none w.left) [
  | inl e ↦ sym (append-nil names) ∙ ap (λ (v : Version). names ++ reverse (keys_of v)) (sym e) ∙ w.whole
  | inr x ↦ absurd (never (map trie_entry x.rest) w.after (trie_entry x.pair)
      (subst (λ (v : List Entry). old v w.after) (map-append trie_entry x.rest (x.pair ∷ [])) (subst (λ (v : Version). old (map trie_entry v) w.after) x.is w.standing)))
]

record LastEntry (before : List Entry) : Type 0 where
  rest : List Entry
  e : Entry
  is : before ≡ rest ++ e ∷ []

last_entry : (before : List Entry) → (before ≡ []) ⊎ LastEntry before
last_entry [] = inl refl
last_entry (x ∷ before) = elim (last_entry before) [
  | inl e ↦ inr (record { rest = []; e = x; is = ap (λ (v : List Entry). x ∷ v) e })
  | inr h ↦ inr (record { rest = x ∷ h.rest; e = h.e; is = ap (λ (v : List Entry). x ∷ v) h.is })
]

pub standing_back : (old new : List Entry → List Entry → Type 0) → IsStanding old → ((after : List Entry) → old [] after → ⊥) →
    ((before after : List Entry) (e : Entry) → old (before ++ e ∷ []) after → new before (e ∷ after)) → IsStanding new
standing_back old new s beginning passed = elim (last_entry s.0) [
  | inl e ↦ absurd (beginning s.1.0 (subst (λ (v : List Entry). old v s.1.0) e s.1.1))
  | inr x ↦ (x.rest, (x.e ∷ s.1.0, passed x.rest s.1.0 x.e (subst (λ (v : List Entry). old v s.1.0) x.is s.1.1)))
]

-- the leaf of the entry that it has behind it
pub passed_leaf : (stands : List Entry → List Entry → Type 0) (lies : Leaf → Entry → Type 0) (leaf : Leaf) → IsStanding stands → ((before after : List Entry) (e : Entry) → stands (before ++ e ∷ []) after → lies leaf e) → ((after : List Entry) → stands [] after → ⊥) → (e : Entry) × lies leaf e
passed_leaf stands lies leaf s prev beginning = elim (last_entry s.0) [
  | inl e ↦ absurd (beginning s.1.0 (subst (λ (v : List Entry). stands v s.1.0) e s.1.1))
  | inr x ↦ (x.e, prev x.rest s.1.0 x.e (subst (λ (v : List Entry). stands v s.1.0) x.is s.1.1))
]

-- a beginning as long as what is wanted of the whole is what is wanted
pub wanted : (names all : List Name) (most : ℕ) → names ≡ all → length names ≤ most → names ≡ take most all
wanted names all most e few = e ∙ sym (take_all most all (subst (λ (l : List Name). length l ≤ most) e few))

-- ---- the place that a search finds

is_before : (name other : Name) → name_cmp other name ≡ order.Less → is_lt (name_cmp other name) ≡ true
is_before name other e = ap is_lt e

not_before : (name other : Name) → is_gt (name_cmp name other) ≡ false → is_lt (name_cmp other name) ≡ false
not_before name other h = turn (name_cmp name other) (name_cmp other name) (name_cmp_total.antisymm other name) h
  where
    turn : (a b : Ordering) → b ≡ ordering_reverse a → is_gt a ≡ false → is_lt b ≡ false
    turn order.Less b e h = ap is_lt e
    turn order.Equal b e h = ap is_lt e
    turn order.Greater b e h = absurd cc

-- where a name's key splits a version, the names before it are in front, and the others behind
pub record SplitAt (name : Name) (version : Version) (stands : List Entry → List Entry → Type 0) : Type 0 where
  pub front : Version
  pub back : Version
  pub front_items : AllByRecursion IsStorable front
  pub back_items : AllByRecursion IsStorable back
  pub standing : stands (map trie_entry front) (map trie_entry back)
  pub before_is : keys_of front ≡ before name version
  pub from_is : keys_of back ≡ from name version

pub split_at : (name : Name) (version : Version) (stands : List Entry → List Entry → Type 0) → IsName name → IsVersion version → AtSplit stands (key_of name) (map trie_entry version) → SplitAt name version stands
split_at name version stands is v s =
    let p = parted version s.before s.after s.split.whole in
    let items = subst (AllByRecursion IsStorable) p.whole v.items in
    let front = all_front p.front p.back items in
    let back = all_back p.front p.back items in
    let lt : Name → Bool = λ (other : Name). is_lt (name_cmp other name) in
    let lower = each lt true p.front front (λ pair item i. is_before name pair.0 (before_key pair.0 name item.name.each is.each (s.split.lower (trie_entry pair) (subst (InList (trie_entry pair)) (sym p.front_is) i)))) in
    let upper = each lt false p.back back (λ pair item i. not_before name pair.0 (up_to_key name pair.0 is.each item.name.each (s.split.upper (trie_entry pair) (subst (InList (trie_entry pair)) (sym p.back_is) i)))) in
    record {
      front = p.front;
      back = p.back;
      front_items = front;
      back_items = back;
      standing = subst (λ (b : List Entry). stands (map trie_entry p.front) b) p.back_is (subst (λ (b : List Entry). stands b s.after) p.front_is s.standing);
      before_is = before_of lt p.front p.back version p.whole lower upper;
      from_is = from_of lt p.front p.back version p.whole lower upper;
    }
  where
    before_of : (lt : Name → Bool) (front back version : Version) → version ≡ front ++ back → AllByRecursion (λ other. lt other ≡ true) (keys_of front) → AllByRecursion (λ other. lt other ≡ false) (keys_of back) → keys_of front ≡ filter lt (keys_of version)
    before_of lt front back version whole lower upper =
        sym (append-nil (keys_of front)) ∙ ap (λ (l : List Name). keys_of front ++ l) (sym (none_pass lt (keys_of back) upper)) ∙ ap (λ (l : List Name). l ++ filter lt (keys_of back)) (sym (all_pass lt (keys_of front) lower))
        ∙ sym (filter-append lt (keys_of front) (keys_of back)) ∙ ap (λ (l : List Name). filter lt l) (sym (keys-append front back)) ∙ ap (λ (v : Version). filter lt (keys_of v)) (sym whole)

    from_of : (lt : Name → Bool) (front back version : Version) → version ≡ front ++ back → AllByRecursion (λ other. lt other ≡ true) (keys_of front) → AllByRecursion (λ other. lt other ≡ false) (keys_of back) → keys_of back ≡ filter (λ other. not (lt other)) (keys_of version)
    from_of lt front back version whole lower upper =
        let nl : Name → Bool = λ (other : Name). not (lt other) in
        sym (all_pass nl (keys_of back) (other_all lt false (keys_of back) upper)) ∙ ap (λ (l : List Name). l ++ filter nl (keys_of back)) (sym (none_pass nl (keys_of front) (other_all lt true (keys_of front) lower)))
        ∙ sym (filter-append nl (keys_of front) (keys_of back)) ∙ ap (λ (l : List Name). filter nl l) (sym (keys-append front back)) ∙ ap (λ (v : Version). filter nl (keys_of v)) (sym whole)
