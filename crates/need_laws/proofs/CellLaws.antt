-- What becomes of the cells of a rising list of entries when one is put in, taken out or exchanged.
use Rattle.std.proofs.Common.{◌≡◌, ℕ, zero, suc, ◌+◌, ◌<◌, ◌≤◌, ◌⊎◌, List, [], ◌∷◌, ◌++◌, length, map, sum_by, arith, inl, inr, refl, sym, ◌∙◌, ap, subst}
use Rattle.std.specs.List.{AllByRecursion}
use Rattle.std.proofs.lemmas.Bool.{cases_lt}
use Rattle.std.proofs.lemmas.List.{map-append, length-map}
use Rattle.std.proofs.lemmas.List.Sums.{sum_by-cons}
use Rattle.zone_model.specs.Keys.{most_item_octets}
use Rattle.trie_model.specs.Keys.{at, Same, AreOctets, IsKey, Entry, IsEntry, Less, InList, Rises}
use Rattle.trie_model.specs.Changes.{Inserted, Nearest}
use Rattle.trie_model.specs.Extents.{content_cells, links, cells_in}
use Rattle.trie_model.specs.Shape.{nodes, keys_of, cells}
use Rattle.trie_model.specs.Trees.{entries_of}
use Rattle.trie_model.proofs.KeyLaws.{in_left, in_right, in_both}
use Rattle.trie_model.proofs.OrderLaws.{one_insertion}
use Rattle.trie_model.proofs.OutlineLaws.{EachIsEntry, place_short, outline_of}
use Rattle.trie_model.proofs.SizeLaws.{size_is, no_cells, entry_cells}
use Rattle.need_laws.proofs.TreeLaws.{larger}

-- ---- which entry of a list a key is nearest to

-- where a key parts from an entry's
record Apart (k : List ℕ) (x : Entry) : Type 0 where
  place : ℕ
  same : Same place k x.key
  differ : at k place ≡ at x.key place → ⊥
  early : place ≤ 503
  key : IsKey x.key

apart_before : (k : List ℕ) (x : Entry) → IsKey k → IsKey x.key → Less x.key k → Apart k x
apart_before k x ik ix l = record { place = l.place; same = λ i lt. sym (l.same i lt); differ = λ e. let low = l.lower in omega arith; early = place_short x.key k ik l; key = ix }

apart_behind : (k : List ℕ) (x : Entry) → IsKey x.key → Less k x.key → Apart k x
apart_behind k x ix l = record { place = l.place; same = l.same; differ = λ e. let low = l.lower in omega arith; early = place_short k x.key ix l; key = ix }

record Near (k : List ℕ) (es : List Entry) : Type 0 where
  d : ℕ
  p : ℕ
  early : d ≤ 503
  inside : p < 47
  near : Nearest d k p es

nearest_of : (k : List ℕ) (x : Entry) (es : List Entry) → ((y : Entry) → InList y (x ∷ es) → Apart k y) → Near k (x ∷ es)
nearest_of k x [] f =
    let a = f x (inl refl) in
    record {
      d = a.place;
      p = at x.key a.place;
      early = a.early;
      inside = a.key.positions a.place;
      near = record {
        near = x;
        there = inl refl;
        same = a.same;
        position = refl;
        other = a.differ;
        apart = λ y i. elim i [ inl s ↦ (a.place, omega arith, λ e. a.differ (e ∙ ap (λ (z : Entry). at z.key a.place) s)) | inr n ↦ absurd n ];
      };
    }
nearest_of k x (y ∷ es) f = go (f x (inl refl)) (nearest_of k y es (λ z i. f z (inr i))) (cases_lt (nearest_of k y es (λ z i. f z (inr i))).d (f x (inl refl)).place)
  where
    go : (a : Apart k x) (m : Near k (y ∷ es)) → (m.d < a.place) ⊎ (a.place ≤ m.d) → Near k (x ∷ (y ∷ es))
    go a m (inl l) = record {
      d = a.place;
      p = at x.key a.place;
      early = a.early;
      inside = a.key.positions a.place;
      near = record {
        near = x;
        there = inl refl;
        same = a.same;
        position = refl;
        other = a.differ;
        apart = λ z i. elim i [
          | inl s ↦ (a.place, omega arith, λ e. a.differ (e ∙ ap (λ (w : Entry). at w.key a.place) s))
          | inr r ↦ (let n = m.near.apart z r in let le = n.1 in (n.0, omega arith, n.2))
        ];
      };
    }
    go a m (inr g) = record {
      d = m.d;
      p = m.p;
      early = m.early;
      inside = m.inside;
      near = record {
        near = m.near.near;
        there = inr m.near.there;
        same = m.near.same;
        position = m.near.position;
        other = m.near.other;
        apart = λ z i. elim i [
          | inl s ↦ (a.place, g, λ e. a.differ (e ∙ ap (λ (w : Entry). at w.key a.place) s))
          | inr r ↦ m.near.apart z r
        ];
      };
    }

-- ---- an entry inside of a rising list

record Parted (before after : List Entry) (e : Entry) : Type 0 where
  lower : (x : Entry) → InList x before → Less x.key e.key
  upper : (x : Entry) → InList x after → Less e.key x.key
  rest : Rises (before ++ after)

parted : (before after : List Entry) (e : Entry) → Rises (before ++ (e ∷ after)) → Parted before after e
parted [] after e r = record { lower = λ x i. absurd i; upper = r.0; rest = r.1 }
parted (x ∷ before) after e r =
    let m = parted before after e r.1 in
    record {
      lower = λ y i. elim i [
        | inl s ↦ subst (λ (w : Entry). Less w.key e.key) (sym s) (r.0 e (in_right e before (e ∷ after) (inl refl)))
        | inr j ↦ m.lower y j
      ];
      upper = m.upper;
      rest = (λ y i. r.0 y (elim (in_both y before after i) [ inl u ↦ in_left y before (e ∷ after) u | inr v ↦ in_right y before (e ∷ after) (inr v) ]), m.rest);
    }

each_parts : (before after : List Entry) (e : Entry) → EachIsEntry (before ++ (e ∷ after)) → IsEntry e × EachIsEntry (before ++ after)
each_parts [] after e h = h
each_parts (x ∷ before) after e h = let m = each_parts before after e h.1 in (m.0, (h.0, m.1))

each_there : (es : List Entry) → EachIsEntry es → (x : Entry) → InList x es → IsEntry x
each_there [] h x i = absurd i
each_there (y ∷ es) h x i = elim i [ inl s ↦ subst IsEntry (sym s) h.0 | inr r ↦ each_there es h.1 x r ]

-- ---- put in, and taken out

-- with the entry there are no fewer cells than without it, and not many more
abbrev pub Between : Entry → List Entry → List Entry → Type 0
Between e without with_it = (cells without ≤ cells with_it) × (cells with_it ≤ cells without + (2 + cells_in e.item))

module _ (x : Entry) (rest : List Entry) (e : Entry) (each : EachIsEntry (x ∷ rest)) (rises : Rises (x ∷ rest)) (is : IsEntry e) (new : List Entry) (put : Inserted e (x ∷ rest) new) where
  from_all : (y : Entry) → InList y (x ∷ rest) → Apart e.key y
  from_all y i = by_side (in_both y put.before put.after (subst (InList y) put.old_is i))
    where
      key : IsKey y.key
      key = (each_there (x ∷ rest) each y i).key

      by_side : InList y put.before ⊎ InList y put.after → Apart e.key y
      by_side (inl b) = apart_before e.key y is.key key (put.lower y b)
      by_side (inr a) = apart_behind e.key y key (put.upper y a)

  grown : Between e (x ∷ rest) new
  grown =
      let o = outline_of x rest each rises in
      let n = nearest_of e.key x rest from_all in
      let l = larger 504 0 n.d n.p e o.tree (omega arith) (omega arith) n.early n.inside is o.is_tree (subst (Nearest n.d e.key n.p) (sym o.holds) n.near) in
      let same = one_insertion e (x ∷ rest) (entries_of l.new) new (subst (λ (os : List Entry). Inserted e os (entries_of l.new)) o.holds l.grown.put) put in
      let a = ap cells (sym o.holds) ∙ size_is 0 o.tree o.is_tree in
      let b = ap cells (sym same) ∙ size_is 0 l.new l.grown.tree in
      let least = l.least in
      let most = l.most in
      (omega (arith, a, b, least), omega (arith, a, b, most))

plain : (before after : List Entry) (e : Entry) → EachIsEntry (before ++ (e ∷ after)) → Rises (before ++ (e ∷ after)) → Between e (before ++ after) (before ++ (e ∷ after))
plain before after e each rises = by_rest (before ++ after) refl
  where
    parts : Parted before after e
    parts = parted before after e rises

    mine : IsEntry e × EachIsEntry (before ++ after)
    mine = each_parts before after e each

    by_rest : (os : List Entry) → before ++ after ≡ os → Between e (before ++ after) (before ++ (e ∷ after))
    by_rest [] none = alone before after none
      where
        alone : (b a : List Entry) → b ++ a ≡ [] → Between e (b ++ a) (b ++ (e ∷ a))
        alone [] [] h = let n = no_cells in let o = entry_cells e mine.0 in (omega (arith, n), omega (arith, n, o))
        alone [] (y ∷ a) h = absurd cc
        alone (y ∷ b) a h = absurd cc
    by_rest (x ∷ rest) some =
        subst (λ (os : List Entry). Between e os (before ++ (e ∷ after))) (sym some)
        (grown x rest e (subst EachIsEntry some mine.1) (subst Rises some parts.rest) mine.0 (before ++ (e ∷ after))
        (record { before = before; after = after; old_is = sym some; new_is = refl; lower = parts.lower; upper = parts.upper }))

-- ---- what items say doesn't matter, but how long they are

pub record IsSized (e : Entry) : Type 0 where
  pub key : IsKey e.key
  pub some : 0 < length e.item
  pub short : length e.item ≤ most_item_octets

abbrev nothing : ℕ → ℕ
nothing octet = 0

abbrev blank : Entry → Entry
blank e = record { key = e.key; item = map nothing e.item }

blank_small : (octets : List ℕ) → AreOctets (map nothing octets)
blank_small [] i = omega arith
blank_small (b ∷ octets) zero = omega arith
blank_small (b ∷ octets) (suc i) = blank_small octets i

blank_entry : (e : Entry) → IsSized e → IsEntry (blank e)
blank_entry e s =
    let l = length-map e.item nothing in let some = s.some in let short = s.short in
    record { key = s.key; item = record { some = omega (arith, l, some); short = omega (arith, l, short); octets = blank_small e.item } }

blank_cells : (e : Entry) → cells_in (blank e).item ≡ cells_in e.item
blank_cells e = ap (λ (n : ℕ). content_cells n + links n) (length-map e.item nothing)

keys_blank : (es : List Entry) → keys_of (map blank es) ≡ keys_of es
keys_blank [] = refl
keys_blank (e ∷ es) = ap (λ (ks : List (List ℕ)). e.key ∷ ks) (keys_blank es)

abbrev item_sum : List Entry → ℕ
item_sum es = sum_by (λ (e : Entry). cells_in e.item) es

sum_step : (e : Entry) (es : List Entry) → item_sum (e ∷ es) ≡ cells_in e.item + item_sum es
sum_step e es = sum_by-cons (λ (x : Entry). cells_in x.item) e es

sum_blank : (es : List Entry) → item_sum (map blank es) ≡ item_sum es
sum_blank [] = refl
sum_blank (e ∷ es) = omega (arith, sum_step (blank e) (map blank es), sum_step e es, blank_cells e, sum_blank es)

cells_blank : (es : List Entry) → cells (map blank es) ≡ cells es
cells_blank es = let k = ap nodes (keys_blank es) in let s = sum_blank es in omega (arith, k, s)

each_blank : (es : List Entry) → AllByRecursion IsSized es → EachIsEntry (map blank es)
each_blank [] h = tt
each_blank (e ∷ es) h = (blank_entry e h.0, each_blank es h.1)

in_blank : (y : Entry) (es : List Entry) → InList y (map blank es) → (x : Entry) × InList x es × (y ≡ blank x)
in_blank y [] i = absurd i
in_blank y (e ∷ es) i = elim i [ inl s ↦ (e, inl refl, s) | inr r ↦ (let m = in_blank y es r in (m.0, inr m.1, m.2)) ]

rises_blank : (es : List Entry) → Rises es → Rises (map blank es)
rises_blank [] r = tt
rises_blank (e ∷ es) r = (λ y i. let m = in_blank y es i in subst (λ (w : Entry). Less e.key w.key) (sym m.2) (r.0 m.0 m.1), rises_blank es r.1)

pub one_more : (before after : List Entry) (e : Entry) → AllByRecursion IsSized (before ++ (e ∷ after)) → Rises (before ++ (e ∷ after)) → Between e (before ++ after) (before ++ (e ∷ after))
one_more before after e sized rises =
    let with_it = map-append blank before (e ∷ after) in
    let without = map-append blank before after in
    let h = plain (map blank before) (map blank after) (blank e) (subst EachIsEntry with_it (each_blank (before ++ (e ∷ after)) sized)) (subst Rises with_it (rises_blank (before ++ (e ∷ after)) rises)) in
    let a = ap cells (sym without) ∙ cells_blank (before ++ after) in
    let b = ap cells (sym with_it) ∙ cells_blank (before ++ (e ∷ after)) in
    let c = blank_cells e in
    let least = h.0 in
    let most = h.1 in
    (omega (arith, a, b, least), omega (arith, a, b, c, most))

-- ---- exchanged

keys_same : (before after : List Entry) (a b : Entry) → a.key ≡ b.key → keys_of (before ++ (a ∷ after)) ≡ keys_of (before ++ (b ∷ after))
keys_same [] after a b same = ap (λ (k : List ℕ). k ∷ keys_of after) same
keys_same (x ∷ before) after a b same = ap (λ (ks : List (List ℕ)). x.key ∷ ks) (keys_same before after a b same)

sums_differ : (before after : List Entry) (a b : Entry) → item_sum (before ++ (b ∷ after)) + cells_in a.item ≡ item_sum (before ++ (a ∷ after)) + cells_in b.item
sums_differ [] after a b = omega (arith, sum_step a after, sum_step b after)
sums_differ (x ∷ before) after a b = omega (arith, sum_step x (before ++ (a ∷ after)), sum_step x (before ++ (b ∷ after)), sums_differ before after a b)

pub exchanged : (before after : List Entry) (a b : Entry) → a.key ≡ b.key → cells (before ++ (b ∷ after)) + cells_in a.item ≡ cells (before ++ (a ∷ after)) + cells_in b.item
exchanged before after a b same = let k = ap nodes (keys_same before after a b same) in let s = sums_differ before after a b in omega (arith, k, s)
