-- A tree to which a leaf comes behind all others.
use Rattle.std.proofs.Common.{◌≡◌, ℕ, suc, ◌+◌, ◌<◌, ◌≤◌, Bool, true, false, eqb, ltb, cond, List, [], ◌∷◌, ◌++◌, length, append-nil, append_assoc, arith, inl, inr, refl, sym, ◌∙◌, ap, subst}
use Rattle.std.proofs.lemmas.Bool.{cases_lt}
use Rattle.std.proofs.lemmas.Bool.Decides.{nat_tests}
use Rattle.trie_model.specs.Extents.{Extents}
use Rattle.trie_model.specs.Keys.{at, Same, Entry, IsEntry, InList}
use Rattle.trie_model.specs.Shape.{nodes_of, nodes_in}
use Rattle.trie_model.specs.Trees.{Tree, Twigs, entries_of, entries, count, AllAt, Agree, IsTree, AreTwigs, Rising, beside}
use Rattle.trie_model.specs.Trees.Tree.{leaf, branch}
use Rattle.trie_model.specs.Trees.Twigs.{none, twig}
use Rattle.trie_model.proofs.BitmapLaws.{few, count-beside}
use Rattle.trie_model.proofs.ExtentLaws.{Laid, laid, short_row}
use Rattle.trie_model.proofs.GrowthLaws.{some_entry}
use Rattle.trie_model.proofs.KeyLaws.{in_both}
use Rattle.trie_model.proofs.SplitLaws.{entries-beside, twigs_join, rising_of}
use Rattle.trie_size.specs.Ways.{way, last_way, last_key, before, meets, Parts}

-- ---- offsets

not_before : (d o : ℕ) → d ≤ o → ltb o d ≡ false
not_before d o l = grind (arith, nat_tests)

is_before : (d o : ℕ) → o < d → ltb o d ≡ true
is_before d o l = grind (arith, nat_tests)

is_other : (d o : ℕ) → d < o → eqb o d ≡ false
is_other d o l = grind (arith, nat_tests)

is_it : (d : ℕ) → eqb d d ≡ true
is_it d = grind (arith, nat_tests)

before_none : (d o : ℕ) (os : List ℕ) → d ≤ o → before d (o ∷ os) ≡ []
before_none d o os l = ap (λ (b : Bool). cond b (o ∷ before d os) []) (not_before d o l)

before_more : (d o : ℕ) (os : List ℕ) → o < d → before d (o ∷ os) ≡ o ∷ before d os
before_more d o os l = ap (λ (b : Bool). cond b (o ∷ before d os) []) (is_before d o l)

meets_none : (d o : ℕ) (os : List ℕ) → d < o → meets d (o ∷ os) ≡ false
meets_none d o os l = ap (λ (b : Bool). cond b (meets d os) (eqb o d)) (not_before d o (omega arith)) ∙ is_other d o l

meets_first : (d : ℕ) (os : List ℕ) → meets d (d ∷ os) ≡ true
meets_first d os = ap (λ (b : Bool). cond b (meets d os) (eqb d d)) (not_before d d (omega arith)) ∙ is_it d

meets_later : (d o : ℕ) (os : List ℕ) → o < d → meets d (o ∷ os) ≡ meets d os
meets_later d o os l = ap (λ (b : Bool). cond b (meets d os) (eqb o d)) (is_before d o l)

-- one node more where the offset is met, and else two
abbrev pub more_nodes : ℕ → List ℕ → ℕ
more_nodes d offsets = cond (meets d offsets) 1 2

more_if : (d : ℕ) (os : List ℕ) (b : Bool) → meets d os ≡ b → more_nodes d os ≡ cond b 1 2
more_if d os b e = let same : ℕ → ℕ → Bool → ℕ = λ m n c. cond c m n in ap (same 1 2) e

more_later : (d o : ℕ) (os : List ℕ) → o < d → more_nodes d (o ∷ os) ≡ more_nodes d os
more_later d o os l = more_if d (o ∷ os) (meets d os) (meets_later d o os l)

-- ---- the last entry

pub record HasLast (key : List ℕ) (es : List Entry) : Type 0 where
  pub e : Entry
  pub there : InList e es
  pub is : e.key ≡ last_key key es

pub has_last : (key : List ℕ) (es : List Entry) → 0 < length es → HasLast key es
has_last key [] l = absurd (omega arith)
has_last key (x ∷ []) l = record { e = x; there = inl refl; is = refl }
has_last key (x ∷ (y ∷ es)) l = let r = has_last x.key (y ∷ es) (omega arith) in record { e = r.e; there = inr r.there; is = r.is }

pub last_key-append : (key : List ℕ) (xs ys : List Entry) → last_key key (xs ++ ys) ≡ last_key (last_key key xs) ys
last_key-append key [] ys = refl
last_key-append key (x ∷ xs) ys = last_key-append x.key xs ys

-- ---- trees

some_in : (x : Entry) (es : List Entry) → InList x es → 0 < length es
some_in x [] i = absurd i
some_in x (y ∷ es) i = omega arith

pub some_leaf : (low : ℕ) (t : Tree) → IsTree low t → 0 < length (entries_of t)
some_leaf low t h = let some = some_entry low t h in some_in some.0 (entries_of t) some.1

agree_in : (low : ℕ) (t : Tree) → IsTree low t → Agree low (entries_of t)
agree_in low (leaf e w) h x y i j k l = ap (λ (z : Entry). at z.key k) (only x i ∙ sym (only y j))
  where
    only : (z : Entry) → InList z (e ∷ []) → z ≡ e
    only z m = elim m [ inl s ↦ s | inr v ↦ absurd v ]
agree_in low (branch o w below) h x y i j k l = h.4 x y i j k (let a = h.0 in omega arith)

-- with an entry more that agrees with one of them
agree_more : (o : ℕ) (es : List Entry) (x e : Entry) → Agree o es → InList x es → Same o x.key e.key → Agree o (es ++ e ∷ [])
agree_more o es x e a i same u v iu iv k l = sym (to_x u iu) ∙ to_x v iv
  where
    to_x : (u : Entry) → InList u (es ++ e ∷ []) → at x.key k ≡ at u.key k
    to_x u m = elim (in_both u es (e ∷ []) m) [
      | inl s ↦ a x u i s k l
      | inr s ↦ elim s [ inl f ↦ same k l ∙ ap (λ (z : Entry). at z.key k) (sym f) | inr f ↦ absurd f ]
    ]

-- all twigs lie below a position where the last one does
rising_to : (o lo q : ℕ) (key : List ℕ) (ts : Twigs) → AreTwigs o lo ts → 1 ≤ count ts → at (last_key key (entries ts)) o < q → Rising lo q ts
rising_to o lo q key none a n l = absurd (omega arith)
rising_to o lo q key (twig p t none) a n l =
    let last = has_last key (entries_of t) (some_leaf (suc o) t a.3) in
    let here = a.2 last.e last.there in
    let read = ap (λ (k : List ℕ). at k o) last.is in
    let all = ap (λ (es : List Entry). at (last_key key es) o) (append-nil (entries_of t)) in
    (a.0, omega arith, omega arith)
rising_to o lo q key (twig p t (twig r u rest)) a n l =
    let at_last = ap (λ (k : List ℕ). at k o) (last_key-append key (entries_of t) (entries (twig r u rest))) in
    let next = rising_to o (suc p) q (last_key key (entries_of t)) (twig r u rest) a.4 (omega arith) (omega arith) in
    (a.0, (let b = next.0 in let c = next.1 in omega arith), next)

last_way-beside : (ws : List ℕ) (ts : Twigs) (q : ℕ) (t : Tree) → last_way ws (beside ts (twig q t none)) ≡ way t
last_way-beside ws none q t = refl
last_way-beside ws (twig p u rest) q t = last_way-beside (way u) rest q t

nodes_in-beside : (ts : Twigs) (q : ℕ) (t : Tree) → nodes_in (beside ts (twig q t none)) ≡ nodes_in ts + nodes_of t
nodes_in-beside none q t = omega arith
nodes_in-beside (twig p u rest) q t = let e = nodes_in-beside rest q t in omega arith

few_twigs : (o : ℕ) (ts : Twigs) → AreTwigs o 0 ts → count ts ≤ 47
few_twigs o ts a = let n = few 0 47 ts (rising_of o 0 ts (omega arith) a) in omega arith

-- a tree with the entry as its last one
pub record Added (low d : ℕ) (e : Entry) (t new : Tree) : Type 0 where
  pub tree : IsTree low new
  pub holds : entries_of new ≡ entries_of t ++ e ∷ []
  pub way_is : way new ≡ before d (way t) ++ d ∷ []
  pub nodes : nodes_of new ≡ nodes_of t + more_nodes d (way t)

-- the same of twigs
record AddedIn (o lo d : ℕ) (e : Entry) (ts new : Twigs) : Type 0 where
  twigs : AreTwigs o lo new
  holds : entries new ≡ entries ts ++ e ∷ []
  long : count new ≡ count ts
  way_is : (ws : List ℕ) → last_way ws new ≡ before d (last_way ws ts) ++ d ∷ []
  nodes : (ws : List ℕ) → nodes_in new ≡ nodes_in ts + more_nodes d (last_way ws ts)

module _ (d : ℕ) (e : Entry) (is : IsEntry e) where
  -- where the item lies doesn't matter here
  there : Laid (length e.item)
  there = laid (length e.item)

  alike : AllAt d (at e.key d) (e ∷ [])
  alike x i = elim i [ inl f ↦ ap (λ (z : Entry). at z.key d) f | inr f ↦ absurd f ]

  parts_at : {key other : List ℕ} → key ≡ other → Parts d key e.key → Parts d other e.key
  parts_at f p = subst (λ (k : List ℕ). Parts d k e.key) f p

  -- a branch above the tree
  pair : (low : ℕ) (t : Tree) (x : Entry) → low ≤ d → IsTree (suc d) t → InList x (entries_of t) → Parts d x.key e.key → IsTree low (branch d 0 (twig (at x.key d) t (twig (at e.key d) (leaf e there.extents) none)))
  pair low t x deep h i p = (
    deep,
    p.early,
    short_row 2 (omega arith),
    omega arith,
    agree_more d (entries_of t) x e (λ u v iu iv k l. agree_in (suc d) t h u v iu iv k (omega arith)) i p.same,
    (
      omega arith,
      (let a = p.rises in let b = is.key.positions d in omega arith),
      (λ y j. agree_in (suc d) t h y x j i d (omega arith)),
      h,
      ((let a = p.rises in omega arith), is.key.positions d, alike, (is, there.are), tt),
    ),
  )

  above_leaf : (low : ℕ) (x : Entry) (w : Extents) → low ≤ d → IsTree low (leaf x w) → Parts d x.key e.key → (new : Tree) × Added low d e (leaf x w) new
  above_leaf low x w deep h p = (branch d 0 (twig (at x.key d) (leaf x w) (twig (at e.key d) (leaf e there.extents) none)), record { tree = pair low (leaf x w) x deep h (inl refl) p; holds = refl; way_is = refl; nodes = omega arith })

  above_branch : (low o w : ℕ) (below : Twigs) (x : Entry) → low ≤ d → d < o → IsTree low (branch o w below) → InList x (entries below) → Parts d x.key e.key → (new : Tree) × Added low d e (branch o w below) new
  above_branch low o w below x deep l h i p = (
    branch d 0 (twig (at x.key d) (branch o w below) (twig (at e.key d) (leaf e there.extents) none)),
    record {
      tree = pair low (branch o w below) x deep (l, h.1, h.2, h.3, h.4, h.5) i p;
      holds = refl;
      way_is = ap (λ (os : List ℕ). os ++ d ∷ []) (sym (before_none d o (last_way [] below) (omega arith)));
      nodes = (let n = more_if d (o ∷ last_way [] below) false (meets_none d o (last_way [] below) l) in omega arith);
    },
  )

  -- one twig more
  beside_last : (low w : ℕ) (below : Twigs) (key : List ℕ) (x : Entry) → IsTree low (branch d w below) → InList x (entries below) → x.key ≡ last_key key (entries below) → Parts d x.key e.key → (new : Tree) × Added low d e (branch d w below) new
  beside_last low w below key x h i last p = (
    branch d 0 (beside below (twig (at e.key d) (leaf e there.extents) none)),
    record {
      tree = (
        h.0,
        h.1,
        short_row (count (beside below (twig (at e.key d) (leaf e there.extents) none))) (let n = longer in let f = few_twigs d below h.5 in omega arith),
        (let n = longer in let two = h.3 in omega arith),
        subst (Agree d) (sym (entries-beside below (twig (at e.key d) (leaf e there.extents) none))) (agree_more d (entries below) x e h.4 i p.same),
        twigs_join d 0 (at e.key d) below (twig (at e.key d) (leaf e there.extents) none) h.5 rising (omega arith, is.key.positions d, alike, (is, there.are), tt),
      );
      holds = entries-beside below (twig (at e.key d) (leaf e there.extents) none);
      way_is = ap (λ (os : List ℕ). d ∷ os) (last_way-beside [] below (at e.key d) (leaf e there.extents)) ∙ ap (λ (os : List ℕ). os ++ d ∷ []) (sym (before_none d d (last_way [] below) (omega arith)));
      nodes = (let n = nodes_in-beside below (at e.key d) (leaf e there.extents) in let m = more_if d (d ∷ last_way [] below) true (meets_first d (last_way [] below)) in omega arith);
    },
  )
    where
      longer : count (beside below (twig (at e.key d) (leaf e there.extents) none)) ≡ suc (count below)
      longer = let a = count-beside below (twig (at e.key d) (leaf e there.extents) none) in omega arith

      rising : Rising 0 (at e.key d) below
      rising = rising_to d 0 (at e.key d) key below h.5 (let two = h.3 in omega arith) (let a = p.rises in let b = ap (λ (k : List ℕ). at k d) last in omega arith)

  -- the last twig grows
  below_branch : (low o w : ℕ) (below : Twigs) (x : Entry) → o < d → IsTree low (branch o w below) → InList x (entries below) → Parts d x.key e.key → ((new : Twigs) × AddedIn o 0 d e below new) → (new : Tree) × Added low d e (branch o w below) new
  below_branch low o w below x l h i p more = (
    branch o 0 more.0,
    record {
      tree = (
        h.0,
        h.1,
        short_row (count more.0) (let f = few_twigs o more.0 more.1.twigs in omega arith),
        (let n = more.1.long in let two = h.3 in omega arith),
        subst (Agree o) (sym more.1.holds) (agree_more o (entries below) x e h.4 i (λ k m. p.same k (omega arith))),
        more.1.twigs,
      );
      holds = more.1.holds;
      way_is = ap (λ (os : List ℕ). o ∷ os) (more.1.way_is []) ∙ ap (λ (os : List ℕ). os ++ d ∷ []) (sym (before_more d o (last_way [] below) l));
      nodes = (let n = more.1.nodes [] in let m = more_later d o (last_way [] below) l in omega arith);
    },
  )

  last_twig : (o lo p : ℕ) (t new : Tree) (x : Entry) → o < d → AreTwigs o lo (twig p t none) → InList x (entries_of t) → Parts d x.key e.key → Added (suc o) d e t new → AddedIn o lo d e (twig p t none) (twig p new none)
  last_twig o lo p t new x l a i parts added = record {
    twigs = (a.0, a.1, all, added.tree, tt);
    holds = append-nil (entries_of new) ∙ added.holds ∙ ap (λ (es : List Entry). es ++ e ∷ []) (sym (append-nil (entries_of t)));
    long = refl;
    way_is = λ ws. added.way_is;
    nodes = λ ws. let n = added.nodes in omega arith;
  }
    where
      all : AllAt o p (entries_of new)
      all y j = elim (in_both y (entries_of t) (e ∷ []) (subst (InList y) added.holds j)) [
        | inl m ↦ a.2 y m
        | inr m ↦ elim m [ inl f ↦ ap (λ (z : Entry). at z.key o) f ∙ sym (parts.same o l) ∙ a.2 x i | inr f ↦ absurd f ]
      ]

  later_twig : (o lo p : ℕ) (t : Tree) (rest new : Twigs) → AreTwigs o lo (twig p t rest) → AddedIn o (suc p) d e rest new → AddedIn o lo d e (twig p t rest) (twig p t new)
  later_twig o lo p t rest new a added = record {
    twigs = (a.0, a.1, a.2, a.3, added.twigs);
    holds = ap (λ (es : List Entry). entries_of t ++ es) added.holds ∙ sym (append_assoc (entries_of t) (entries rest) (e ∷ []));
    long = ap suc added.long;
    way_is = λ ws. added.way_is (way t);
    nodes = λ ws. let n = added.nodes (way t) in omega arith;
  }

  mutual
    pub add_to : (low : ℕ) (key : List ℕ) (t : Tree) → IsTree low t → low ≤ d → Parts d (last_key key (entries_of t)) e.key → (new : Tree) × Added low d e t new
    add_to low key (leaf x w) h deep p = above_leaf low x w deep h p
    add_to low key (branch o w below) h deep p =
        let last = has_last key (entries below) (some_leaf low (branch o w below) h) in
        let at_last = parts_at (sym last.is) p in
        elim (cases_lt d o) [
          | inl l ↦ above_branch low o w below last.e deep l h last.there at_last
          | inr g ↦ elim (cases_lt o d) [
            | inl l ↦ below_branch low o w below last.e l h last.there at_last (add_in o 0 key below h.5 l (let two = h.3 in omega arith) p)
            | inr k ↦ (let same : o ≡ d = omega arith in
                let tree : IsTree low (branch d w below) = subst (λ (n : ℕ). IsTree low (branch n w below)) same h in
                let made = beside_last low w below key last.e tree last.there last.is at_last in
                subst (λ (n : ℕ). (new : Tree) × Added low d e (branch n w below) new) (sym same) made)
          ]
        ]

    add_in : (o lo : ℕ) (key : List ℕ) (ts : Twigs) → AreTwigs o lo ts → o < d → 1 ≤ count ts → Parts d (last_key key (entries ts)) e.key → (new : Twigs) × AddedIn o lo d e ts new
    add_in o lo key none a l n p = absurd (omega arith)
    add_in o lo key (twig q t none) a l n p =
        let parts = parts_at (ap (last_key key) (append-nil (entries_of t))) p in
        let last = has_last key (entries_of t) (some_leaf (suc o) t a.3) in
        let made = add_to (suc o) key t a.3 l parts in
        (twig q made.0 none, last_twig o lo q t made.0 last.e l a last.there (parts_at (sym last.is) parts) made.1)
    add_in o lo key (twig q t (twig r u rest)) a l n p =
        let made = add_in o (suc q) (last_key key (entries_of t)) (twig r u rest) a.4 l (omega arith) (parts_at (last_key-append key (entries_of t) (entries (twig r u rest))) p) in
        (twig q t made.0, later_twig o lo q t (twig r u rest) made.0 a made.1)

-- ---- a way is short

mutual
  pub way_short : (low : ℕ) (t : Tree) → IsTree low t → low ≤ 504 → length (way t) + low ≤ 504
  way_short low (leaf e w) h l = omega arith
  way_short low (branch o w below) h l = let a = h.0 in let b = h.1 in let c = last_way_short o 0 below [] h.5 (omega arith) in omega arith

  last_way_short : (o lo : ℕ) (ts : Twigs) (ws : List ℕ) → AreTwigs o lo ts → length ws + suc o ≤ 504 → length (last_way ws ts) + suc o ≤ 504
  last_way_short o lo none ws a l = l
  last_way_short o lo (twig p t rest) ws a l = last_way_short o (suc p) rest (way t) a.4 (way_short (suc o) t a.3 (omega arith))
