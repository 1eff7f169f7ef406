-- The size of a trie with one leaf more.
use Rattle.std.proofs.Common.{◌≡◌, ℕ, ◌+◌, ◌-◌, ◌<◌, ◌≤◌, take, set, List, [], ◌∷◌, ◌++◌, length, sum_by, Option, Some, None, arith, inl, inr, refl, sym, ◌∙◌, ap, subst, length-append}
use Rattle.std.proofs.lemmas.Bool.{cases_lt}
use Rattle.std.proofs.lemmas.List.{take_more_set, take-take, length-take}
use Rattle.std.proofs.lemmas.List.Sums.{sum_by_push}
use Rattle.std.proofs.Math.Seq.{take-append-add}
use Rattle.zone_model.specs.Names.{Name, IsName, BeginsWith, wire}
use Rattle.zone_model.specs.Keys.{key_of, IsFirstDifference}
use Rattle.trie_model.specs.Extents.{cells_in}
use Rattle.trie_model.specs.Keys.{at, Same, AreOctets, IsItem, Entry, IsEntry, Less, InList, Rises}
use Rattle.trie_model.specs.Shape.{nodes, keys_of, cells, nodes_of}
use Rattle.trie_model.specs.Trees.{Tree, entries_of, IsTree}
use Rattle.trie_model.specs.Trees.Tree.{leaf}
use Rattle.trie_model.proofs.ExtentLaws.{laid}
use Rattle.trie_model.proofs.NameLaws.{name_key}
use Rattle.trie_model.proofs.OutlineLaws.{place_short}
use Rattle.trie_model.proofs.ShapeLaws.{nodes-none, nodes_are}
use Rattle.shift_key.specs.declared.names.Parting.{Parting}
use Rattle.shift_key.specs.Partings.{PartAt, IsParting}
use Rattle.trie_size.specs.Ways.{way, last_key, before, Parts}
use Rattle.trie_size.specs.declared.size.TrieSize.{TrieSize}
use Rattle.trie_size.specs.Sizes.{EndsAt, IsNone, IsSizeOf, Follows}
use Rattle.trie_size.proofs.TreeLaws.{Added, has_last, last_key-append, add_to, more_nodes, some_leaf, way_short}

-- ---- keys

-- an entry behind others has a higher key
pub comes_behind : (es : List Entry) (e : Entry) → Rises (es ++ e ∷ []) → (x : Entry) → InList x es → Less x.key e.key
comes_behind [] e rises x i = absurd i
comes_behind (y ∷ es) e rises x (inl same) = subst (λ (z : Entry). Less z.key e.key) (sym same) (rises.0 e (last_there es))
  where
    last_there : (es : List Entry) → InList e (es ++ e ∷ [])
    last_there [] = inl refl
    last_there (z ∷ es) = inr (last_there es)
comes_behind (y ∷ es) e rises x (inr later) = comes_behind es e rises.1 x later

-- keys that agree before a place and differ there first differ there
one_difference : (a b : List ℕ) (d o : ℕ) → IsFirstDifference a b d → Same o a b → at a o < at b o → d ≡ o
one_difference a b d o first same low = elim (cases_lt d o) [
  | inl l ↦ absurd (first.differ (same d l))
  | inr g ↦ elim (cases_lt o d) [ inl l ↦ absurd (let e = first.before o l in omega arith) | inr h ↦ omega arith ]
]

pub parts_of : (a b : List ℕ) (e : Entry) (p : Parting) → e.key ≡ b → IsEntry e → Less a b → PartAt a b p → Parts p.place a e.key
parts_of a b e p key is less h =
    let place = one_difference a b p.place less.place h.first less.same less.lower in
    subst (λ (k : List ℕ). Parts p.place a k) (sym key) (record {
      same = h.first.before;
      rises = subst (λ (n : ℕ). at a n < at b n) (sym place) less.lower;
      early = (let s = place_short a e.key is.key (subst (Less a) (sym key) less) in omega arith);
    })

-- ---- items

wire_some : (name : Name) → 0 < length (wire name)
wire_some [] = omega arith
wire_some (label ∷ labels) = omega arith

-- the octets are an item's
entry_is : {s : TrieSize} {octets : List ℕ} {es : List Entry} {e : Entry} → Follows s octets es e → AreOctets octets → IsEntry e
entry_is {octets = octets} {e = e} f small = record {
  key = name_key e.key (f.leads.name, f.leads.is_name, f.leads.key);
  item = subst IsItem (sym f.item) (record {
    some = (let w = wire_some f.leads.name in let l = ap (λ (xs : List ℕ). length xs) f.leads.front.1 in let n = length-append (wire f.leads.name) f.leads.front.0 in omega arith);
    short = f.leads.short;
    octets = small;
  });
}

-- ---- sizes

keys_append : (es : List Entry) (e : Entry) (t : Tree) → entries_of t ≡ es ++ e ∷ [] → IsTree 0 t → nodes (keys_of (es ++ e ∷ [])) ≡ nodes_of t
keys_append es e t holds tree = ap (λ (xs : List Entry). nodes (keys_of xs)) (sym holds) ∙ nodes_are 0 t tree

item_cells : (es : List Entry) (e : Entry) → sum_by (λ (x : Entry). cells_in x.item) (es ++ e ∷ []) ≡ sum_by (λ (x : Entry). cells_in x.item) es + cells_in e.item
item_cells es e = sum_by_push (λ (x : Entry). cells_in x.item) es e

-- of no entries
pub none_sized : (nodes (keys_of []) ≡ 0) × (cells [] ≡ 0)
none_sized = let n = nodes-none in (n, let all : cells [] ≡ 0 = omega arith in all)

-- what is known of the last entry, where there is one

pub none_yet : {s : TrieSize} {es : List Entry} → IsSizeOf s es → s.names ≡ 0 → IsNone (take s.depth s.offsets) es
none_yet {s} {es} h zero = elim h.ends [
  | inl none ↦ none
  | inr some ↦ absurd (let l = some_leaf 0 some.tree some.is in let n = ap (λ (xs : List Entry). length xs) some.holds in let m = h.names in omega arith)
]

pub some_last : {s : TrieSize} {es : List Entry} → IsSizeOf s es → (s.names ≡ 0 → ⊥) → EndsAt (take s.last_len s.last) (take s.depth s.offsets) es
some_last {s} {es} h some = elim h.ends [
  | inl none ↦ absurd (some (h.names ∙ ap (λ (xs : List Entry). length xs) none.0))
  | inr last ↦ last
]

-- the octets of a name stand among the first 255
pub front_begins : (octets : List ℕ) (name : Name) → IsName name → BeginsWith octets name → BeginsWith (take 255 octets) name
front_begins octets name is begins =
    let n : ℕ = 255 - length (wire name) in
    let all : 255 ≡ length (wire name) + n = let s = is.short in omega arith in
    (take n begins.0, ap (take 255) begins.1 ∙ ap (λ (m : ℕ). take m (wire name ++ begins.0)) all ∙ take-append-add (wire name) begins.0 n)

-- the first leaf
pub record First (octets : List ℕ) (e : Entry) : Type 0 where
  pub nodes_are_one : nodes (keys_of (e ∷ [])) ≡ 1
  pub cells_are : cells (e ∷ []) ≡ 1 + cells_in e.item
  pub ends : (last : List ℕ) → last ≡ take 255 octets → EndsAt last [] (e ∷ [])

pub first : {s : TrieSize} {octets : List ℕ} {es : List Entry} {e : Entry} → Follows s octets es e → AreOctets octets → First octets e
first {octets = octets} {e = e} f small =
    let there = laid (length e.item) in
    let is = entry_is f small in
    let one = nodes_are 0 (leaf e there.extents) (is, there.are) in
    record {
      nodes_are_one = one;
      cells_are = (let c = item_cells [] e in omega arith);
      ends = λ last same. record {
        tree = leaf e there.extents;
        is = (is, there.are);
        holds = refl;
        way_is = refl;
        name = f.leads.name;
        is_name = f.leads.is_name;
        begins = subst (λ (xs : List ℕ). BeginsWith xs f.leads.name) (sym same) (front_begins octets f.leads.name f.leads.is_name f.leads.front);
        key = f.leads.key;
      };
    }

-- a leaf behind others
pub record Behind (octets offsets : List ℕ) (d : ℕ) (es : List Entry) (e : Entry) : Type 0 where
  pub nodes_more : nodes (keys_of (es ++ e ∷ [])) ≡ nodes (keys_of es) + more_nodes d offsets
  pub cells_more : cells (es ++ e ∷ []) ≡ cells es + more_nodes d offsets + cells_in e.item
  pub short : length (before d offsets) ≤ 503
  pub ends : (last new : List ℕ) → last ≡ take 255 octets → new ≡ before d offsets ++ d ∷ [] → EndsAt last new (es ++ e ∷ [])

pub behind : {s : TrieSize} {octets : List ℕ} {es : List Entry} {e : Entry} (d : ℕ) → Follows s octets es e → AreOctets octets → (s.names ≡ 0 → ⊥) → Parts d (last_key [] es) e.key → Behind octets (take s.depth s.offsets) d es e
behind {s} {octets} {es} {e} d f small some parts = record {
  nodes_more = more;
  cells_more = (let n = more in let c = item_cells es e in omega arith);
  short = (let w = way_short 0 made.0 added.tree (omega arith) in let l = ap (λ (os : List ℕ). length os) new_way in let n = length-append (before d offsets) (d ∷ []) in omega arith);
  ends = λ last new same is. record {
    tree = made.0;
    is = added.tree;
    holds = entries_are;
    way_is = new_way ∙ sym is;
    name = f.leads.name;
    is_name = f.leads.is_name;
    begins = subst (λ (xs : List ℕ). BeginsWith xs f.leads.name) (sym same) (front_begins octets f.leads.name f.leads.is_name f.leads.front);
    key = last_key-append [] es (e ∷ []) ∙ f.leads.key;
  };
}
  where
    offsets : List ℕ
    offsets = take s.depth s.offsets

    old : EndsAt (take s.last_len s.last) (take s.depth s.offsets) es
    old = some_last f.counted some

    made : (new : Tree) × Added 0 d e old.tree new
    made = add_to d e (entry_is f small) 0 [] old.tree old.is (omega arith) (subst (λ (k : List ℕ). Parts d k e.key) (ap (last_key []) (sym old.holds)) parts)

    added : Added 0 d e old.tree made.0
    added = made.1

    entries_are : entries_of made.0 ≡ es ++ e ∷ []
    entries_are = added.holds ∙ ap (λ (xs : List Entry). xs ++ e ∷ []) old.holds

    new_way : way made.0 ≡ before d (take s.depth s.offsets) ++ d ∷ []
    new_way = added.way_is ∙ ap (λ (os : List ℕ). before d os ++ d ∷ []) old.way_is

    more : nodes (keys_of (es ++ e ∷ [])) ≡ nodes (keys_of es) + more_nodes d (take s.depth s.offsets)
    more =
        let a = keys_append es e made.0 entries_are added.tree in
        let b = ap (λ (xs : List Entry). nodes (keys_of xs)) (sym old.holds) ∙ nodes_are 0 old.tree old.is in
        let c = ap (more_nodes d) old.way_is in
        let n = added.nodes in omega arith

-- ---- where the keys part

-- the last key is lower than that of an entry behind
last_lower : {octets offsets : List ℕ} {es : List Entry} (e : Entry) → EndsAt octets offsets es → Rises (es ++ e ∷ []) → Less (last_key [] es) e.key
last_lower {es = es} e old rises =
    let some = some_leaf 0 old.tree old.is in
    let n = ap (λ (xs : List Entry). length xs) old.holds in
    let x = has_last [] es (omega arith) in
    subst (λ (k : List ℕ). Less k e.key) x.is (comes_behind es e rises x.e x.there)

not_lower : (a b : List ℕ) → a ≡ b → Less a b → ⊥
not_lower a b same l = let lower = l.lower in let e = ap (λ (k : List ℕ). at k l.place) same in omega arith

-- what is told of where the names part that two items begin with
module _ {s : TrieSize} {octets : List ℕ} {es : List Entry} {e : Entry} (f : Follows s octets es e) (some : s.names ≡ 0 → ⊥) (r : Option Parting)
    (told : (a b : Name) → IsName a → IsName b → BeginsWith (take s.last_len s.last) a → BeginsWith octets b → IsParting (key_of a) (key_of b) r) where
  old : EndsAt (take s.last_len s.last) (take s.depth s.offsets) es
  old = some_last f.counted some

  part : IsParting (key_of old.name) (key_of f.leads.name) r
  part = told old.name f.leads.name old.is_name f.leads.is_name old.begins f.leads.front

  pub keys_part : r ≡ None → ⊥
  keys_part none =
      let same : key_of old.name ≡ key_of f.leads.name = subst (λ (x : Option Parting). IsParting (key_of old.name) (key_of f.leads.name) x) none part in
      not_lower (last_key [] es) e.key (old.key ∙ same ∙ sym f.leads.key) (last_lower e old f.rising)

  pub part_there : AreOctets octets → (p : Parting) → r ≡ Some p → Parts p.place (last_key [] es) e.key
  part_there small p is =
      let at_p : PartAt (key_of old.name) (key_of f.leads.name) p = subst (λ (x : Option Parting). IsParting (key_of old.name) (key_of f.leads.name) x) is part in
      let less : Less (key_of old.name) (key_of f.leads.name) = subst (λ (k : List ℕ). Less (key_of old.name) k) f.leads.key (subst (λ (k : List ℕ). Less k e.key) old.key (last_lower e old f.rising)) in
      subst (λ (k : List ℕ). Parts p.place k e.key) (sym old.key) (parts_of (key_of old.name) (key_of f.leads.name) e p f.leads.key (entry_is f small) less at_p)

-- the offsets, with a new one behind the first of them
pub offsets_after : (offsets : List ℕ) (depth i d : ℕ) → i ≤ length (take depth offsets) → i < length offsets → take i (take depth offsets) ≡ before d (take depth offsets) → take (i + 1) (set offsets i d) ≡ before d (take depth offsets) ++ d ∷ []
offsets_after offsets depth i d inside room is =
    take_more_set offsets i d room ∙ ap (λ (os : List ℕ). os ++ d ∷ []) (front ∙ is)
  where
    front : take i offsets ≡ take i (take depth offsets)
    front = let l = length-take depth offsets in let n : i ≤ depth = omega arith in sym (take-take i depth offsets n)

pub before_short : {octets offsets : List ℕ} {d : ℕ} {es : List Entry} {e : Entry} (i : ℕ) → Behind octets offsets d es e → take i offsets ≡ before d offsets → i ≤ length offsets → i < 504
before_short {offsets = offsets} i b is inside = let s = b.short in let l = ap (λ (os : List ℕ). length os) is in let n = length-take i offsets in omega arith
