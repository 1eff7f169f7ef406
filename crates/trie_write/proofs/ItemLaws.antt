-- What the octets of an item say.
use Rattle.std.proofs.Common.{◌≡◌, ℕ, zero, suc, ◌<◌, ◌≤◌, true, List, [], ◌∷◌, ◌++◌, length, slice_index, slice_get, Option, Some, None, arith, inl, inr, refl, sym, ◌∙◌, ap, subst, true≢false, length-append}
use Rattle.zone_model.specs.Names.{Name, IsName, IsLabel, BeginsWith, wire}
use Rattle.std.specs.List.{AllByRecursion}
use Rattle.std.proofs.lemmas.Bool.{cases_lt}
use Rattle.std.specs.Option.{IsSome, IsNone}
use Rattle.zone_model.specs.Keys.{key_of, IsFirstDifference, Leads, most_item_octets}
use Rattle.zone_model.specs.Splits.{split_name}
use Rattle.zone_model.proofs.SplitLemmas.{name_back, name_sound}
use Rattle.trie_model.specs.Keys.{at, Same, Entry, IsEntry, Less, InList, Rises}
use Rattle.trie_model.proofs.NameLaws.{name_key}
use Rattle.trie_model.proofs.OutlineLaws.{EachIsEntry, Outline, outline_of, place_short}
use Rattle.trie_read.specs.Reads.{EachTells}
use Rattle.trie_write.specs.declared.item.Item.{Item}
use Rattle.trie_write.specs.declared.branch_points.BranchPoint.{BranchPoint}
use Rattle.trie_write.specs.Entries.{entry_of, entries_of_items}
use Rattle.trie_write.specs.Points.{IsPoint, Ahead}
use Rattle.shift_key.specs.declared.names.Parting.{Parting}
use Rattle.shift_key.specs.Partings.{PartAt, IsParting}
use Rattle.trie_write.specs.Named.{is_split, begins_with_name, key_of_split, key_in}

-- what is known of an item's octets
pub record IsStored (octets : List ℕ) : Type 0 where
  pub short : length octets ≤ most_item_octets
  pub named : begins_with_name octets ≡ true
  pub small : (i : ℕ) → slice_index octets i < 256

pub key_in-wire : (name : Name) (rest : List ℕ) → IsName name → key_in (wire name ++ rest) ≡ key_of name
key_in-wire name rest is = ap key_of_split (name_back name rest is)

pub begins_with_name-wire : (name : Name) (rest : List ℕ) → IsName name → begins_with_name (wire name ++ rest) ≡ true
begins_with_name-wire name rest is = ap is_split (name_back name rest is)

-- the octets begin with a name, whose key is in them
pub record HasName (octets : List ℕ) : Type 0 where
  pub name : Name
  pub is_name : IsName name
  pub rest : List ℕ
  pub octets_are : octets ≡ wire name ++ rest
  pub key : key_in octets ≡ key_of name

pub name_of : (octets : List ℕ) → IsStored octets → HasName octets
name_of octets is = go (split_name octets) refl
  where
    go : (split : Option (Name × List ℕ)) → split_name octets ≡ split → HasName octets
    go None e = absurd (true≢false (sym is.named ∙ ap is_split e))
    go (Some x) e =
        let s = name_sound octets x is.small e in
        record { name = x.0; is_name = s.name; rest = x.1; octets_are = s.octets; key = ap key_of_split e }

pub wire_some : (name : Name) → 0 < length (wire name)
wire_some [] = omega arith
wire_some (label ∷ labels) = omega arith

pub leads_of : (octets : List ℕ) → IsStored octets → Leads (key_in octets) octets
leads_of octets is = let n = name_of octets is in record { short = is.short; name = n.name; is_name = n.is_name; key = n.key; front = (n.rest, n.octets_are) }

pub entry_is : (octets : List ℕ) → IsStored octets → IsEntry (record { key = key_in octets; item = octets })
entry_is octets is =
    let n = name_of octets is in
    record {
      key = name_key (key_in octets) (n.name, n.is_name, n.key);
      item = record { some = (let a = wire_some n.name in let b = ap (λ (x : List ℕ). length x) n.octets_are in let c = length-append (wire n.name) n.rest in omega arith); short = is.short; octets = is.small };
    }

pub some_or : {A : Type 0} (o : Option A) → (IsNone o → ⊥) → IsSome o
some_or None h = absurd (h refl)
some_or (Some x) h = refl

pub key_in-begins : (octets : List ℕ) (name : Name) → IsName name → BeginsWith octets name → key_in octets ≡ key_of name
key_in-begins octets name is front = ap key_in front.1 ∙ key_in-wire name front.0 is

-- octets fit a byte
abbrev pub AreSmall : List ℕ → Type 0
AreSmall octets = (i : ℕ) → slice_index octets i < 256

small-cons : (x : ℕ) (xs : List ℕ) → x < 256 → AreSmall xs → AreSmall (x ∷ xs)
small-cons x xs l h zero = l
small-cons x xs l h (suc i) = h i

pub small-append : (xs ys : List ℕ) → AreSmall xs → AreSmall ys → AreSmall (xs ++ ys)
small-append [] ys a b = b
small-append (x ∷ xs) ys a b = small-cons x (xs ++ ys) (a 0) (small-append xs ys (λ i. a (suc i)) b)

small_all : (xs : List ℕ) → AllByRecursion (λ c. c < 256) xs → AreSmall xs
small_all [] h = λ i. omega arith
small_all (x ∷ xs) h = small-cons x xs h.0 (small_all xs h.1)

small_labels : (name : Name) → AllByRecursion IsLabel name → AreSmall (wire name)
small_labels [] h = small-cons 0 [] (omega arith) (λ i. omega arith)
small_labels (label ∷ labels) h = small-cons (length label) (label ++ wire labels) (let s = h.0.short in omega arith) (small-append label (wire labels) (small_all label h.0.octets) (small_labels labels h.1))

pub stored_of : (name : Name) (payload octets : List ℕ) → IsName name → AreSmall payload → octets ≡ wire name ++ payload → length octets ≤ most_item_octets → IsStored octets
stored_of name payload octets is small e short = record {
  short = short;
  named = ap begins_with_name e ∙ begins_with_name-wire name payload is;
  small = subst AreSmall (sym e) (small-append (wire name) payload (small_labels name is.each) small);
}

-- ---- the entries of items
pub item_entry : (x : Item) → IsEntry (entry_of x)
item_entry x = entry_is x.octets.items (record { short = x.short; named = x.named; small = x.small })

pub each_entry : (items : List Item) → EachIsEntry (entries_of_items items)
each_entry [] = tt
each_entry (x ∷ xs) = (item_entry x, each_entry xs)

pub no_items : (items : List Item) → length items ≡ 0 → entries_of_items items ≡ []
no_items [] e = refl
no_items (x ∷ items) e = absurd (omega arith)

pub outline_items : (items : List Item) → 0 < length items → Rises (entries_of_items items) → Outline 0 (entries_of_items items)
outline_items [] l rises = absurd (omega arith)
outline_items (x ∷ xs) l rises = outline_of (entry_of x) (entries_of_items xs) (each_entry (x ∷ xs)) rises

pub items_tell : (items : List Item) → EachTells Leads (entries_of_items items)
items_tell [] x i = absurd i
items_tell (y ∷ items) x (inl same) = subst (λ (e : Entry). Leads e.key e.item) (sym same) (leads_of y.octets.items (record { short = y.short; named = y.named; small = y.small }))
items_tell (y ∷ items) x (inr later) = items_tell items x later

pub first_item : (items : List Item) (x : Item) → slice_get items 0 ≡ Some x → (later : List Item) × (items ≡ x ∷ later)
first_item [] x e = absurd cc
first_item (y ∷ items) x e = let f : x ≡ y = cc in (items, ap (λ (z : Item). z ∷ items) (sym f))

-- keys that agree before a place and differ there first differ there
one_place : (a b : List ℕ) (d o : ℕ) → IsFirstDifference a b d → Same o a b → at a o < at b o → d ≡ o
one_place a b d o first same low = elim (cases_lt d o) [
  | inl l ↦ absurd (first.differ (same d l))
  | inr g ↦ elim (cases_lt o d) [ inl l ↦ absurd (let e = first.before o l in omega arith) | inr h ↦ omega arith ]
]

-- where the keys of two entries part
pub point_of : (a b : Entry) (point : BranchPoint) → IsEntry b → Less a.key b.key → IsFirstDifference a.key b.key point.offset → at a.key point.offset ≡ point.before → at b.key point.offset ≡ point.after → IsPoint a.key b.key point
point_of a b point is l first before after =
    let place : point.offset ≡ l.place = one_place a.key b.key point.offset l.place first l.same l.lower in
    let lower : at a.key point.offset < at b.key point.offset = subst (λ (n : ℕ). at a.key n < at b.key n) (sym place) l.lower in
    record {
      same = first.before;
      before = before;
      after = after;
      rises = omega arith;
      early = (let s = place_short a.key b.key is.key l in omega arith);
      inside = (let p = is.key.positions point.offset in omega arith);
    }

named : (x : Item) → HasName x.octets.items
named x = name_of x.octets.items (record { short = x.short; named = x.named; small = x.small })

module _ (item next : Item) (rest later : List Item) (is : rest ≡ next ∷ later) (rises : Rises (entry_of item ∷ entries_of_items rest)) where
  less : Less (entry_of item).key (entry_of next).key
  less = rises.0 (entry_of next) (subst (λ (xs : List Item). InList (entry_of next) (entries_of_items xs)) (sym is) (inl refl))

  -- the keys of neighbours part as those of the names that their octets begin with
  pub neighbours_part : {first second : List ℕ} → first ≡ item.octets.items → second ≡ next.octets.items → (r : Option Parting)
      → ((a b : Name) → IsName a → IsName b → BeginsWith first a → BeginsWith second b → IsParting (key_of a) (key_of b) r) → IsParting (entry_of item).key (entry_of next).key r
  neighbours_part e f r parts =
      let n = named item in let m = named next in
      subst (λ (k : List ℕ). IsParting k (entry_of next).key r) (sym n.key)
      (subst (λ (k : List ℕ). IsParting (key_of n.name) k r) (sym m.key) (parts n.name m.name n.is_name m.is_name (n.rest, e ∙ n.octets_are) (m.rest, f ∙ m.octets_are)))

  -- they aren't one
  pub keys_part : (entry_of item).key ≡ (entry_of next).key → ⊥
  keys_part same = let l = less in let lower = l.lower in let e = ap (λ (k : List ℕ). at k l.place) same in omega arith

  -- and part where they first differ
  pub keys_part_at : (p : Parting) → PartAt (entry_of item).key (entry_of next).key p → Ahead (entry_of item) (entries_of_items rest) (Some (record { offset = p.place; before = p.before; after = p.after }))
  keys_part_at p h = (
    entry_of next,
    entries_of_items later,
    ap entries_of_items is,
    point_of (entry_of item) (entry_of next) (record { offset = p.place; before = p.before; after = p.after }) (item_entry next) less h.first (sym h.before) (sym h.after),
  )
