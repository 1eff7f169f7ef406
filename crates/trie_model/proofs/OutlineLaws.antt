-- Every strictly rising list of entries has a tree, and one that goes on has a larger one.
use Rattle.std.proofs.Common.{◌≡◌, ℕ, zero, suc, ◌+◌, ◌<◌, ◌≤◌, ◌⊎◌, List, [], ◌∷◌, ◌++◌, length, append_assoc, append-nil, arith, inl, inr, refl, sym, ◌∙◌, ap, subst}
use Rattle.std.proofs.lemmas.Bool.{cases_lt}
use Rattle.std.proofs.lemmas.List.{get_or_past}
use Rattle.trie_model.specs.Keys.{at, IsKey, Entry, IsEntry, Less, InList, Rises}
use Rattle.trie_model.specs.Changes.{Inserted, Nearest, Grown, Deep}
use Rattle.trie_model.specs.Shape.{cells}
use Rattle.trie_model.specs.Trees.{Tree, Twigs, entries_of, entries, count, IsTree, AreTwigs, beside}
use Rattle.trie_model.specs.Trees.Tree.{leaf, branch}
use Rattle.trie_model.specs.Trees.Twigs.{twig}
use Rattle.trie_model.proofs.KeyLaws.{in_right, in_both}
use Rattle.trie_model.proofs.SplitLaws.{Found, Missing, rising_of}
use Rattle.trie_model.proofs.BitmapLaws.{few, count-beside}
use Rattle.trie_model.proofs.CountLaws.{weigh_add, weigh_replace}
use Rattle.trie_model.proofs.GrowthLaws.{Alone, alone_of, split_low, split_high, some_entry, each_entry}
use Rattle.trie_model.proofs.AddLaws.{absent_of, present_of, nearest_here, add_twig, grow_twig, found_twigs}
use Rattle.trie_model.proofs.OrderLaws.{one_insertion}
use Rattle.trie_model.proofs.ExtentLaws.{Laid, laid, short_row}
use Rattle.trie_model.proofs.SizeLaws.{one, size, size_is, row_ones}

-- a tree with an entry put in, where its key first differs from all others
abbrev More : Entry → ℕ → Tree → Type 0
More e low t = (new : Tree) × Grown e low t new × (size t ≤ size new)

module _ (low d p : ℕ) (e : Entry) (deep : low ≤ d) (short : d ≤ 503) (lp : p < 47) (is : IsEntry e) where
  -- where the item lies doesn't matter here
  there : Laid (length e.item)
  there = laid (length e.item)

  put_above : (t : Tree) → IsTree low t → Nearest d e.key p (entries_of t) → Deep d t → More e low t
  put_above t h x deeper = elim (cases_lt (at e.key d) p) [
    | inl l ↦ (_, split_low low d 0 p there.extents e t deep short (short_row 2 (omega arith)) lp is there.are l alone, omega arith)
    | inr g ↦ (_, split_high low d 0 p there.extents e t deep short (short_row 2 (omega arith)) (is.key.positions d) lp is there.are (apart g) alone, omega arith)
  ]
    where
      alone : Alone d e.key p t
      alone = alone_of low d e.key p t h x deeper

      apart : p ≤ at e.key d → p < at e.key d
      apart g = elim (cases_lt p (at e.key d)) [ inl l ↦ l | inr m ↦ absurd (x.other (omega arith)) ]

  fits : (o : ℕ) (ts : Twigs) → AreTwigs o 0 ts → count ts ≤ 47
  fits o ts a = let f = few 0 47 ts (rising_of o 0 ts (omega arith) a) in omega arith

  put_beside : (w : ℕ) (below : Twigs) → IsTree low (branch d w below) → Nearest d e.key p (entries below) → More e low (branch d w below)
  put_beside w below tree near =
      let m = absent_of low d w p e.key below tree near (is.key.positions d) in
      let sizes = weigh_add one w 0 (at e.key d) there.extents e below m in
      let new = add_twig low d w 0 p there.extents e below m tree near is there.are (short_row (suc (count below)) (let f = fits d below tree.5 in omega arith)) in
      (_, new, (let a = row_ones w (count below) in let b = row_ones 0 (count (beside m.left (twig (at e.key d) (leaf e there.extents) m.right))) in let c = sizes_of m in omega arith))
    where
      sizes_of : (m : Missing 0 47 (at e.key d) below) → count (beside m.left (twig (at e.key d) (leaf e there.extents) m.right)) ≡ suc (count below)
      sizes_of m = let a = count-beside m.left (twig (at e.key d) (leaf e there.extents) m.right) in let b = ap count m.is ∙ count-beside m.left m.right in omega arith

  put_below : (o w : ℕ) (below : Twigs) → IsTree low (branch o w below) → Nearest d e.key p (entries below) → o < d → ((t : Tree) → IsTree (suc o) t → Nearest d e.key p (entries_of t) → More e (suc o) t) → More e low (branch o w below)
  put_below o w below tree near l next =
      let f = present_of low d o w p e.key below tree near l (is.key.positions o) in
      let twigs = found_twigs o (at e.key o) below tree.5 f in
      let new = next f.here twigs.3 (nearest_here low d o w p e.key below tree near l f) in
      let sizes = weigh_replace one w 0 (at e.key o) below f new.0 in
      let larger = new.2 in
      (_, grow_twig low d o w 0 p e below f tree near l (short_row (count below) (let g = fits o below tree.5 in omega arith)) new.0 new.1, (let a = row_ones w (count below) in let b = row_ones 0 (count (beside f.left (twig (at e.key o) new.0 f.rest))) in let c = sizes_of f new.0 in omega arith))
    where
      sizes_of : (f : Found 0 47 (at e.key o) below) (new : Tree) → count (beside f.left (twig (at e.key o) new f.rest)) ≡ count below
      sizes_of f new = count-beside f.left (twig (at e.key o) new f.rest) ∙ sym (ap count f.is ∙ count-beside f.left (twig (at e.key o) f.here f.rest))

put_in : (n low d p : ℕ) (e : Entry) (t : Tree) → 504 ≤ n + low → low ≤ d → d ≤ 503 → p < 47 → IsEntry e → IsTree low t → Nearest d e.key p (entries_of t) → More e low t
put_in n low d p e (leaf x w) many deep short lp is tree near = put_above low d p e deep short lp is (leaf x w) tree near tt
put_in zero low d p e (branch o w below) many deep short lp is tree near = absurd (omega arith)
put_in (suc n) low d p e (branch o w below) many deep short lp is tree near = go (cases_lt d o) (λ t. put_in n (suc o) d p e t (let a = tree.0 in omega arith))
  where
    go : (d < o) ⊎ (o ≤ d) → ((t : Tree) → suc o ≤ d → d ≤ 503 → p < 47 → IsEntry e → IsTree (suc o) t → Nearest d e.key p (entries_of t) → More e (suc o) t) → More e low (branch o w below)
    go (inl l) next = put_above low d p e deep short lp is (branch o w below) tree near l
    go (inr g) next = elim (cases_lt o d) [
      | inl l ↦ put_below low d p e deep short lp is o w below tree near l (λ t h x. next t l short lp is h x)
      | inr h ↦ (
          let same : d ≡ o = omega arith in
          let here : IsTree low (branch d w below) = subst (λ (x : ℕ). IsTree low (branch x w below)) (sym same) tree in
          subst (λ (x : ℕ). More e low (branch x w below)) same (put_beside low d p e deep short lp is w below here near)
          )
    ]

-- what comes after a rising list is nearest to its last entry
last_near : (front : List Entry) (z e : Entry) → ((x : Entry) → InList x front → Less x.key z.key) → (l : Less z.key e.key) → Nearest l.place e.key (at z.key l.place) (front ++ (z ∷ []))
last_near front z e lower l = record {
  near = z;
  there = in_right z front (z ∷ []) (inl refl);
  same = λ i lt. sym (l.same i lt);
  position = refl;
  other = λ same. let low = l.lower in omega arith;
  apart = λ y i. elim (in_both y front (z ∷ []) i) [
    | inl before ↦ further y (lower y before) (cases_lt (lower y before).place l.place)
    | inr last ↦ elim last [
      | inl same ↦ (l.place, omega arith, λ f. let low = l.lower in let g = ap (λ (x : Entry). at x.key l.place) same in omega arith)
      | inr none ↦ absurd none
    ]
  ];
}
  where
    further : (y : Entry) (m : Less y.key z.key) → (m.place < l.place) ⊎ (l.place ≤ m.place) → (i : ℕ) × (i ≤ l.place) × (at e.key i ≡ at y.key i → ⊥)
    further y m (inl lt) = (m.place, omega arith, λ f. let a = l.same m.place lt in let b = m.lower in omega arith)
    further y m (inr ge) = (
      l.place,
      omega arith,
      λ f. let low = l.lower in elim (cases_lt l.place m.place) [
        | inl lt ↦ (let a = m.same l.place lt in omega arith)
        | inr g ↦ (let same : m.place ≡ l.place = omega arith in let b : at y.key l.place < at z.key l.place = subst (λ (i : ℕ). at y.key i < at z.key i) same m.lower in omega arith)
      ],
    )

-- keys differ before their ends
pub place_short : (a b : List ℕ) → IsKey b → (l : Less a b) → l.place ≤ 503
place_short a b is l = elim (cases_lt l.place (length b)) [
  | inl lt ↦ (let s = is.short in omega arith)
  | inr ge ↦ absurd (let past = get_or_past b l.place 0 ge in let low = l.lower in omega arith)
]

abbrev pub EachIsEntry : List Entry → Type 0
EachIsEntry [] = Unit {0}
EachIsEntry (e ∷ es) = IsEntry e × EachIsEntry es

-- a tree of these entries, with as many cells as another, or more
pub record Outline (most : ℕ) (es : List Entry) : Type 0 where
  pub tree : Tree
  pub is_tree : IsTree 0 tree
  pub holds : entries_of tree ≡ es
  pub larger : most ≤ size tree

across : (xs ys : List Entry) (z : Entry) → Rises (xs ++ (z ∷ ys)) → (x : Entry) → InList x xs → Less x.key z.key
across [] ys z rises x i = absurd i
across (y ∷ xs) ys z rises x i = elim i [
  | inl same ↦ subst (λ (w : Entry). Less w.key z.key) (sym same) (rises.0 z (in_right z xs (z ∷ ys) (inl refl)))
  | inr later ↦ across xs ys z rises.1 x later
]

behind : (xs ys : List Entry) → Rises (xs ++ ys) → Rises ys
behind [] ys rises = rises
behind (x ∷ xs) ys rises = behind xs ys rises.1

-- a tree that has those behind its last entry too
outgrow : (es front : List Entry) (z : Entry) (t : Tree) → IsTree 0 t → entries_of t ≡ front ++ (z ∷ []) → IsEntry z → EachIsEntry es → Rises (front ++ (z ∷ es)) → Outline (size t) (front ++ (z ∷ es))
outgrow [] front z t is holds isz each rises = record { tree = t; is_tree = is; holds = holds; larger = omega arith }
outgrow (e ∷ es) front z t is holds isz each rises =
    let lower = across front (e ∷ es) z rises in
    let l = (behind front (z ∷ (e ∷ es)) rises).0 e (inl refl) in
    let moved : front ++ (z ∷ (e ∷ es)) ≡ (front ++ (z ∷ [])) ++ (e ∷ es) = sym (append_assoc front (z ∷ []) (e ∷ es)) in
    let near = subst (Nearest l.place e.key (at z.key l.place)) (sym holds) (last_near front z e lower l) in
    let more = put_in 504 0 l.place (at z.key l.place) e t (omega arith) (omega arith) (place_short z.key e.key each.0.key l) (isz.key.positions l.place) each.0 is near in
    let put : Inserted e (front ++ (z ∷ [])) ((front ++ (z ∷ [])) ++ (e ∷ [])) = record {
      before = front ++ (z ∷ []);
      after = [];
      old_is = sym (append-nil (front ++ (z ∷ [])));
      new_is = refl;
      lower = across (front ++ (z ∷ [])) es e (subst Rises moved rises);
      upper = λ x i. absurd i;
    } in
    let next = one_insertion e (front ++ (z ∷ [])) (entries_of more.0) ((front ++ (z ∷ [])) ++ (e ∷ [])) (subst (λ (os : List Entry). Inserted e os (entries_of more.0)) holds more.1.put) put in
    let all = outgrow es (front ++ (z ∷ [])) e more.0 more.1.tree next each.0 each.1 (subst Rises moved rises) in
    let larger = more.2 in
    record { tree = all.tree; is_tree = all.is_tree; holds = all.holds ∙ sym moved; larger = (let a = all.larger in omega arith) }

pub outline_of : (e : Entry) (es : List Entry) → EachIsEntry (e ∷ es) → Rises (e ∷ es) → Outline 0 (e ∷ es)
outline_of e es is rises = let o = outgrow es [] e (leaf e (laid (length e.item)).extents) (is.0, (laid (length e.item)).are) refl is.0 is.1 rises in record { tree = o.tree; is_tree = o.is_tree; holds = o.holds; larger = omega arith }

-- the last entry of a list
record Ended (es : List Entry) : Type 0 where
  front : List Entry
  z : Entry
  is : es ≡ front ++ (z ∷ [])

ended : (e : Entry) (es : List Entry) → Ended (e ∷ es)
ended e [] = record { front = []; z = e; is = refl }
ended e (x ∷ es) = let more = ended x es in record { front = e ∷ more.front; z = more.z; is = ap (λ (xs : List Entry). e ∷ xs) more.is }

raised : (low : ℕ) (t : Tree) → IsTree low t → IsTree 0 t
raised low (leaf e w) h = h
raised low (branch o w below) h = (omega arith, h.1, h.2, h.3, h.4, h.5)

-- a trie of the first entries has no more cells than one of all
pub fewer_cells : (low : ℕ) (t : Tree) (rest es : List Entry) → IsTree low t → es ≡ entries_of t ++ rest → EachIsEntry rest → Rises es → cells (entries_of t) ≤ cells es
fewer_cells low t rest es is whole each rises = go (entries_of t) refl (some_entry low t is)
  where
    go : (own : List Entry) → entries_of t ≡ own → ((x : Entry) × InList x (entries_of t)) → cells (entries_of t) ≤ cells es
    go [] e some = absurd (subst (InList some.0) e some.1)
    go (x ∷ own) e some =
        let last = ended x own in
        let holds : entries_of t ≡ last.front ++ (last.z ∷ []) = e ∙ last.is in
        let all : es ≡ last.front ++ (last.z ∷ rest) = whole ∙ ap (λ (xs : List Entry). xs ++ rest) holds ∙ append_assoc last.front (last.z ∷ []) rest in
        let isz = each_entry low t is last.z (subst (InList last.z) (sym holds) (in_right last.z last.front (last.z ∷ []) (inl refl))) in
        let o = outgrow rest last.front last.z t (raised low t is) holds isz each (subst Rises all rises) in
        let a = size_is low t is in
        let b = ap cells (all ∙ sym o.holds) ∙ size_is 0 o.tree o.is_tree in
        let c = o.larger in omega arith
