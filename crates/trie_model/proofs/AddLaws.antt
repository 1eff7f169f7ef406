-- A branch with a twig added, and with a twig grown.
use Rattle.std.proofs.Common.{◌≡◌, ℕ, suc, ◌<◌, ◌≤◌, ◌⊎◌, List, [], ◌∷◌, ◌++◌, append_assoc, length, arith, inl, inr, sym, ◌∙◌, ap, subst}
use Rattle.std.proofs.lemmas.Bool.{cases_lt}
use Rattle.trie_model.proofs.BitmapLaws.{count-beside}
use Rattle.trie_model.proofs.GrowthLaws.{some_entry}
use Rattle.trie_model.proofs.KeyLaws.{in_left, in_right, in_both}
use Rattle.trie_model.proofs.SplitLaws.{Found, Missing, look, entries-beside, twigs_left, twigs_right, twigs_join, keys_lower, keys_upper, in_found, not_missing, rising_of}
use Rattle.trie_model.specs.Changes.{Inserted, Nearest, Grown}
use Rattle.trie_model.specs.Keys.{at, Same, Entry, IsEntry, Less, InList}
use Rattle.trie_model.specs.Trees.{Tree, Twigs, entries_of, entries, count, AllAt, Agree, IsTree, AreTwigs, beside}
use Rattle.trie_model.specs.Extents.{Extents, AreExtents, IsRow}
use Rattle.trie_model.specs.Trees.Tree.{leaf, branch}
use Rattle.trie_model.specs.Trees.Twigs.{twig}

pub found_twigs : (o p : ℕ) (ts : Twigs) → AreTwigs o 0 ts → (f : Found 0 47 p ts) → AreTwigs o p (twig p f.here f.rest)
found_twigs o p ts a f = twigs_right o 0 p 47 f.left (twig p f.here f.rest) (subst (AreTwigs o 0) f.is a) (let z : p ≤ p = omega arith in z, f.inside, f.upper)

pub found_entries : (p : ℕ) (ts : Twigs) (f : Found 0 47 p ts) → entries ts ≡ entries f.left ++ (entries_of f.here ++ entries f.rest)
found_entries p ts f = ap entries f.is ∙ entries-beside f.left (twig p f.here f.rest)

pub from_here : (p : ℕ) (ts : Twigs) (f : Found 0 47 p ts) (x : Entry) → InList x (entries_of f.here) → InList x (entries ts)
from_here p ts f x h = subst (InList x) (sym (found_entries p ts f)) (in_right x (entries f.left) (entries_of f.here ++ entries f.rest) (in_left x (entries_of f.here) (entries f.rest) h))

pub missing_entries : (p : ℕ) (ts : Twigs) (m : Missing 0 47 p ts) → entries ts ≡ entries m.left ++ entries m.right
missing_entries p ts m = ap entries m.is ∙ entries-beside m.left m.right

pub in_put : (e x : Entry) (old new : List Entry) → Inserted e old new → InList x new → (x ≡ e) ⊎ InList x old
in_put e x old new put i = go (in_both x put.before (e ∷ put.after) (subst (InList x) put.new_is i))
  where
    go : InList x put.before ⊎ InList x (e ∷ put.after) → (x ≡ e) ⊎ InList x old
    go (inl a) = inr (subst (InList x) (sym put.old_is) (in_left x put.before put.after a))
    go (inr b) = elim b [ inl y ↦ inl y | inr z ↦ inr (subst (InList x) (sym put.old_is) (in_right x put.before put.after z)) ]

-- the key's position at the place of the first difference has no twig
pub absent_of : (low d w p : ℕ) (k : List ℕ) (below : Twigs) → IsTree low (branch d w below) → Nearest d k p (entries below) → at k d < 47 → Missing 0 47 (at k d) below
absent_of low d w p k below h n l = elim (look 0 47 (at k d) below (let z : 0 ≤ at k d = omega arith in z) l (rising_of d 0 below (let z : 0 ≤ 47 = omega arith in z) h.5)) [ inl f ↦ absurd (no f) | inr m ↦ m ]
  where
    split : (x : Entry) → InList x (entries below) → at x.key d ≡ at k d → (i : ℕ) → i ≤ d → (at k i ≡ at x.key i → ⊥) → (i < d) ⊎ (d ≤ i) → ⊥
    split x there eq i le apart (inl lt) = apart (n.same i lt ∙ h.4 n.near x n.there there i lt)
    split x there eq i le apart (inr ge) = let e : i ≡ d = omega arith in apart (subst (λ (j : ℕ). at k j ≡ at x.key j) (sym e) (sym eq))

    no : Found 0 47 (at k d) below → ⊥
    no f =
        let twigs = found_twigs d (at k d) below h.5 f in
        let x = some_entry (suc d) f.here twigs.3 in
        let there = from_here (at k d) below f x.0 x.1 in
        let a = n.apart x.0 there in
        split x.0 there (twigs.2 x.0 x.1) a.0 a.1 a.2 (cases_lt a.0 d)

-- before it, it has one
pub present_of : (low d o w p : ℕ) (k : List ℕ) (below : Twigs) → IsTree low (branch o w below) → Nearest d k p (entries below) → o < d → at k o < 47 → Found 0 47 (at k o) below
present_of low d o w p k below h n lt l = elim (look 0 47 (at k o) below (let z : 0 ≤ at k o = omega arith in z) l (rising_of o 0 below (let z : 0 ≤ 47 = omega arith in z) h.5)) [ inl f ↦ f | inr m ↦ absurd (not_missing o (at k o) below h.5 m n.near n.there (sym (n.same o lt))) ]

pub nearest_here : (low d o w p : ℕ) (k : List ℕ) (below : Twigs) → IsTree low (branch o w below) → (n : Nearest d k p (entries below)) → o < d → (f : Found 0 47 (at k o) below) → Nearest d k p (entries_of f.here)
nearest_here low d o w p k below h n lt f = record {
  near = n.near;
  there = in_found o (at k o) below h.5 f n.near n.there (sym (n.same o lt));
  same = n.same;
  position = n.position;
  other = n.other;
  apart = λ x i. n.apart x (from_here (at k o) below f x i);
}

-- the key agrees before o with all keys that agree with the nearest there
pub agrees : (d o p : ℕ) (k : List ℕ) (es : List Entry) → Agree o es → Nearest d k p es → o ≤ d → (x : Entry) → InList x es → Same o k x.key
agrees d o p k es a n le x i j lt = n.same j (omega arith) ∙ a n.near x n.there i j lt

agree_by : (o : ℕ) (k : List ℕ) (es : List Entry) → ((x : Entry) → InList x es → Same o k x.key) → Agree o es
agree_by o k es like x y i j n lt = sym (like x i n lt) ∙ like y j n lt

pub add_twig : (low d w wn p : ℕ) (there : Extents) (e : Entry) (below : Twigs) (m : Missing 0 47 (at e.key d) below) → IsTree low (branch d w below) → Nearest d e.key p (entries below) → IsEntry e → AreExtents (length e.item) there → IsRow wn (suc (count below)) →
    Grown e low (branch d w below) (branch d wn (beside m.left (twig (at e.key d) (leaf e there) m.right)))
add_twig low d w wn p there e below m h n is lf lw = record {
  tree = (h.0, h.1, subst (IsRow wn) (sym sizes) lw, (let s = sizes in let t = h.3 in omega arith), agree_by d e.key (entries (beside m.left (twig (at e.key d) (leaf e there) m.right))) like, twigs);
  put = record { before = entries m.left; after = entries m.right; old_is = missing_entries (at e.key d) below m; new_is = entries-beside m.left (twig (at e.key d) (leaf e there) m.right); lower = lower; upper = upper };
}
  where
    sizes : count (beside m.left (twig (at e.key d) (leaf e there) m.right)) ≡ suc (count below)
    sizes = let a = count-beside m.left (twig (at e.key d) (leaf e there) m.right) in let b = ap count m.is ∙ count-beside m.left m.right in omega arith

    whole : AreTwigs d 0 (beside m.left m.right)
    whole = subst (AreTwigs d 0) m.is h.5

    left : AreTwigs d 0 m.left
    left = twigs_left d 0 m.left m.right whole

    right : AreTwigs d (suc (at e.key d)) m.right
    right = twigs_right d 0 (suc (at e.key d)) 47 m.left m.right whole m.upper

    old : (x : Entry) → InList x (entries m.left) ⊎ InList x (entries m.right) → InList x (entries below)
    old x (inl a) = subst (InList x) (sym (missing_entries (at e.key d) below m)) (in_left x (entries m.left) (entries m.right) a)
    old x (inr b) = subst (InList x) (sym (missing_entries (at e.key d) below m)) (in_right x (entries m.left) (entries m.right) b)

    alike : AllAt d (at e.key d) (e ∷ [])
    alike x i = elim i [ inl y ↦ ap (λ (z : Entry). at z.key d) y | inr z ↦ absurd z ]

    twigs : AreTwigs d 0 (beside m.left (twig (at e.key d) (leaf e there) m.right))
    twigs = twigs_join d 0 (at e.key d) m.left (twig (at e.key d) (leaf e there) m.right) left m.lower (let z : at e.key d ≤ at e.key d = omega arith in z, m.inside, alike, (is, lf), right)

    known : (x : Entry) → InList x (entries below) → Same d e.key x.key
    known = agrees d d p e.key (entries below) h.4 n (omega arith)

    like : (x : Entry) → InList x (entries (beside m.left (twig (at e.key d) (leaf e there) m.right))) → Same d e.key x.key
    like x i = elim (in_both x (entries m.left) (e ∷ entries m.right) (subst (InList x) (entries-beside m.left (twig (at e.key d) (leaf e there) m.right)) i)) [
      | inl a ↦ known x (old x (inl a))
      | inr b ↦ elim b [ inl y ↦ (λ j k. ap (λ (z : Entry). at z.key j) (sym y)) | inr z ↦ known x (old x (inr z)) ]
    ]

    lower : (x : Entry) → InList x (entries m.left) → Less x.key e.key
    lower x i = record { place = d; same = λ j k. sym (known x (old x (inl i)) j k); lower = keys_lower d 0 (at e.key d) m.left left m.lower x i }

    upper : (x : Entry) → InList x (entries m.right) → Less e.key x.key
    upper x i = record { place = d; same = known x (old x (inr i)); lower = (let q : suc (at e.key d) ≤ at x.key d = keys_upper d (suc (at e.key d)) (suc (at e.key d)) 47 m.right right m.upper x i in omega arith) }

pub grow_twig : (low d o w wn p : ℕ) (e : Entry) (below : Twigs) (f : Found 0 47 (at e.key o) below) → IsTree low (branch o w below) → Nearest d e.key p (entries below) → o < d → IsRow wn (count below) →
    (new : Tree) → Grown e (suc o) f.here new → Grown e low (branch o w below) (branch o wn (beside f.left (twig (at e.key o) new f.rest)))
grow_twig low d o w wn p e below f h n lt lw new g = record {
  tree = (h.0, h.1, subst (IsRow wn) (sym sizes) lw, (let s = sizes in let t = h.3 in omega arith), agree_by o e.key (entries (beside f.left (twig (at e.key o) new f.rest))) like, twigs);
  put = record { before = entries f.left ++ g.put.before; after = g.put.after ++ entries f.rest; old_is = old_is; new_is = new_is; lower = lower; upper = upper };
}
  where
    sizes : count (beside f.left (twig (at e.key o) new f.rest)) ≡ count below
    sizes = count-beside f.left (twig (at e.key o) new f.rest) ∙ sym (ap count f.is ∙ count-beside f.left (twig (at e.key o) f.here f.rest))

    here : AreTwigs o (at e.key o) (twig (at e.key o) f.here f.rest)
    here = found_twigs o (at e.key o) below h.5 f

    left : AreTwigs o 0 f.left
    left = twigs_left o 0 f.left (twig (at e.key o) f.here f.rest) (subst (AreTwigs o 0) f.is h.5)

    old_left : (x : Entry) → InList x (entries f.left) → InList x (entries below)
    old_left x a = subst (InList x) (sym (found_entries (at e.key o) below f)) (in_left x (entries f.left) (entries_of f.here ++ entries f.rest) a)

    old_rest : (x : Entry) → InList x (entries f.rest) → InList x (entries below)
    old_rest x a = subst (InList x) (sym (found_entries (at e.key o) below f)) (in_right x (entries f.left) (entries_of f.here ++ entries f.rest) (in_right x (entries_of f.here) (entries f.rest) a))

    known : (x : Entry) → InList x (entries below) → Same o e.key x.key
    known = agrees d o p e.key (entries below) h.4 n (omega arith)

    all : AllAt o (at e.key o) (entries_of new)
    all x i = elim (in_put e x (entries_of f.here) (entries_of new) g.put i) [ inl y ↦ ap (λ (z : Entry). at z.key o) y | inr z ↦ here.2 x z ]

    twigs : AreTwigs o 0 (beside f.left (twig (at e.key o) new f.rest))
    twigs = twigs_join o 0 (at e.key o) f.left (twig (at e.key o) new f.rest) left f.lower (here.0, here.1, all, g.tree, here.4)

    news : (x : Entry) → InList x (entries_of new) → Same o e.key x.key
    news x i = elim (in_put e x (entries_of f.here) (entries_of new) g.put i) [ inl y ↦ (λ j k. ap (λ (z : Entry). at z.key j) (sym y)) | inr z ↦ known x (from_here (at e.key o) below f x z) ]

    like : (x : Entry) → InList x (entries (beside f.left (twig (at e.key o) new f.rest))) → Same o e.key x.key
    like x i = elim (in_both x (entries f.left) (entries_of new ++ entries f.rest) (subst (InList x) (entries-beside f.left (twig (at e.key o) new f.rest)) i)) [
      | inl a ↦ known x (old_left x a)
      | inr b ↦ elim (in_both x (entries_of new) (entries f.rest) b) [ inl y ↦ news x y | inr z ↦ known x (old_rest x z) ]
    ]

    b : List Entry
    b = g.put.before

    old_is : entries below ≡ (entries f.left ++ g.put.before) ++ (g.put.after ++ entries f.rest)
    old_is = found_entries (at e.key o) below f ∙ ap (λ (es : List Entry). entries f.left ++ (es ++ entries f.rest)) g.put.old_is ∙ ap (λ (es : List Entry). entries f.left ++ es) (append_assoc g.put.before g.put.after (entries f.rest)) ∙ sym (append_assoc (entries f.left) g.put.before (g.put.after ++ entries f.rest))

    new_is : entries (beside f.left (twig (at e.key o) new f.rest)) ≡ (entries f.left ++ g.put.before) ++ (e ∷ (g.put.after ++ entries f.rest))
    new_is = entries-beside f.left (twig (at e.key o) new f.rest) ∙ ap (λ (es : List Entry). entries f.left ++ (es ++ entries f.rest)) g.put.new_is ∙ ap (λ (es : List Entry). entries f.left ++ es) (append_assoc g.put.before (e ∷ g.put.after) (entries f.rest)) ∙ sym (append_assoc (entries f.left) g.put.before (e ∷ (g.put.after ++ entries f.rest)))

    lower : (x : Entry) → InList x (entries f.left ++ g.put.before) → Less x.key e.key
    lower x i = elim (in_both x (entries f.left) g.put.before i) [
      | inl a ↦ record { place = o; same = λ j k. sym (known x (old_left x a) j k); lower = keys_lower o 0 (at e.key o) f.left left f.lower x a }
      | inr z ↦ g.put.lower x z
    ]

    upper : (x : Entry) → InList x (g.put.after ++ entries f.rest) → Less e.key x.key
    upper x i = elim (in_both x g.put.after (entries f.rest) i) [
      | inl a ↦ g.put.upper x a
      | inr z ↦ record { place = o; same = known x (old_rest x z); lower = (let q : suc (at e.key o) ≤ at x.key o = keys_upper o (suc (at e.key o)) (suc (at e.key o)) 47 f.rest here.4 f.upper x z in omega arith) }
    ]
