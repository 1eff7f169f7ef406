-- A branch with a twig dropped: of three or more it stays a branch, of two the other twig's tree takes its place.
use Rattle.std.proofs.Common.{◌≡◌, ℕ, suc, ◌≤◌, List, [], ◌∷◌, ◌++◌, append_assoc, append-nil, arith, inl, inr, refl, sym, ◌∙◌, ap, subst}
use Rattle.trie_model.proofs.AddLaws.{found_twigs, found_entries}
use Rattle.trie_model.proofs.BitmapLaws.{count-beside}
use Rattle.trie_model.proofs.KeyLaws.{in_left, in_right, in_both}
use Rattle.trie_model.proofs.SplitLaws.{Found, entries-beside, twigs_left, twigs_join}
use Rattle.trie_model.specs.Changes.{Shrunk}
use Rattle.trie_model.specs.Keys.{Entry, InList}
use Rattle.trie_model.specs.Trees.{Tree, Twigs, entries_of, entries, count, Agree, IsTree, AreTwigs, beside}
use Rattle.trie_model.specs.Extents.{Extents, IsRow}
use Rattle.trie_model.specs.Trees.Tree.{leaf, branch}
use Rattle.trie_model.specs.Trees.Twigs.{none, twig}

-- a tree deeper than it has to be
abbrev pub higher : (low up : ℕ) (t : Tree) → IsTree low t → up ≤ low → IsTree up t
higher low up (leaf e w) h l = h
higher low up (branch o w below) h l = (let a = h.0 in omega arith, h.1, h.2, h.3, h.4, h.5)

fewer : (o : ℕ) (es fs : List Entry) → Agree o es → ((x : Entry) → InList x fs → InList x es) → Agree o fs
fewer o es fs a inside x y i j = a x y (inside x i) (inside y j)

-- a leaf twig is dropped
pub drop_twig : (low o w wn p : ℕ) (there : Extents) (e : Entry) (below : Twigs) (f : Found 0 47 p below) → IsTree low (branch o w below) → f.here ≡ leaf e there → 3 ≤ count below → IsRow wn (count (beside f.left f.rest)) →
    Shrunk e low (branch o w below) (branch o wn (beside f.left f.rest))
drop_twig low o w wn p there e below f h is three l = record {
  tree = (h.0, h.1, l, (let s = sizes in omega arith), fewer o (entries below) (entries (beside f.left f.rest)) h.4 inside, twigs);
  removed = record { before = entries f.left; after = entries f.rest; old_is = found_entries p below f ∙ ap (λ (t : Tree). entries f.left ++ (entries_of t ++ entries f.rest)) is; new_is = entries-beside f.left f.rest };
}
  where
    sizes : suc (count (beside f.left f.rest)) ≡ count below
    sizes = let a = count-beside f.left f.rest in let b = ap count f.is ∙ count-beside f.left (twig p f.here f.rest) in omega arith

    here : AreTwigs o p (twig p f.here f.rest)
    here = found_twigs o p below h.5 f

    twigs : AreTwigs o 0 (beside f.left f.rest)
    twigs = twigs_join o 0 p f.left f.rest (twigs_left o 0 f.left (twig p f.here f.rest) (subst (AreTwigs o 0) f.is h.5)) f.lower (widened f.rest here.4)
      where
        widened : (ts : Twigs) → AreTwigs o (suc p) ts → AreTwigs o p ts
        widened none a = tt
        widened (twig q t rest) a = (let b = a.0 in omega arith, a.1, a.2, a.3, a.4)

    inside : (x : Entry) → InList x (entries (beside f.left f.rest)) → InList x (entries below)
    inside x i = subst (InList x) (sym (found_entries p below f)) (elim (in_both x (entries f.left) (entries f.rest) (subst (InList x) (entries-beside f.left f.rest) i)) [
      | inl a ↦ in_left x (entries f.left) (entries_of f.here ++ entries f.rest) a
      | inr b ↦ in_right x (entries f.left) (entries_of f.here ++ entries f.rest) (in_right x (entries_of f.here) (entries f.rest) b)
    ])

-- of two twigs the other one takes the branch's place: the one before
pub collapse_low : (low o w p q : ℕ) (there : Extents) (e : Entry) (t : Tree) → IsTree low (branch o w (twig p t (twig q (leaf e there) none))) → Shrunk e low (branch o w (twig p t (twig q (leaf e there) none))) t
collapse_low low o w p q there e t h = record {
  tree = higher (suc o) low t h.5.3 (let a = h.0 in omega arith);
  removed = record { before = entries_of t; after = []; old_is = refl; new_is = sym (append-nil (entries_of t)) };
}

-- the one after
pub collapse_high : (low o w p q : ℕ) (there : Extents) (e : Entry) (t : Tree) → IsTree low (branch o w (twig p (leaf e there) (twig q t none))) → Shrunk e low (branch o w (twig p (leaf e there) (twig q t none))) t
collapse_high low o w p q there e t h = record {
  tree = higher (suc o) low t h.5.4.3 (let a = h.0 in omega arith);
  removed = record { before = []; after = entries_of t ++ []; old_is = refl; new_is = sym (append-nil (entries_of t)) };
}

-- deeper down, a twig becomes a smaller tree
pub shrink_twig : (low o w wn p : ℕ) (e : Entry) (below : Twigs) (f : Found 0 47 p below) → IsTree low (branch o w below) → IsRow wn (count below) → (new : Tree) → Shrunk e (suc o) f.here new →
    Shrunk e low (branch o w below) (branch o wn (beside f.left (twig p new f.rest)))
shrink_twig low o w wn p e below f h l new g = record {
  tree = (
    h.0,
    h.1,
    subst (IsRow wn) (sym sizes) l,
    (let s = sizes in let t = h.3 in omega arith),
    fewer o (entries below) (entries (beside f.left (twig p new f.rest))) h.4 inside,
    twigs_join o 0 p f.left (twig p new f.rest) (twigs_left o 0 f.left (twig p f.here f.rest) (subst (AreTwigs o 0) f.is h.5)) f.lower (here.0, here.1, (λ x i. here.2 x (kept x i)), g.tree, here.4),
  );
  removed = record {
    before = entries f.left ++ g.removed.before;
    after = g.removed.after ++ entries f.rest;
    old_is = found_entries p below f ∙ ap (λ (es : List Entry). entries f.left ++ (es ++ entries f.rest)) g.removed.old_is ∙ ap (λ (es : List Entry). entries f.left ++ es) (append_assoc g.removed.before (e ∷ g.removed.after) (entries f.rest)) ∙ sym (append_assoc (entries f.left) g.removed.before (e ∷ (g.removed.after ++ entries f.rest)));
    new_is = entries-beside f.left (twig p new f.rest) ∙ ap (λ (es : List Entry). entries f.left ++ (es ++ entries f.rest)) g.removed.new_is ∙ ap (λ (es : List Entry). entries f.left ++ es) (append_assoc g.removed.before g.removed.after (entries f.rest)) ∙ sym (append_assoc (entries f.left) g.removed.before (g.removed.after ++ entries f.rest));
  };
}
  where
    sizes : count (beside f.left (twig p new f.rest)) ≡ count below
    sizes = count-beside f.left (twig p new f.rest) ∙ sym (ap count f.is ∙ count-beside f.left (twig p f.here f.rest))

    here : AreTwigs o p (twig p f.here f.rest)
    here = found_twigs o p below h.5 f

    kept : (x : Entry) → InList x (entries_of new) → InList x (entries_of f.here)
    kept x i = subst (InList x) (sym g.removed.old_is) (elim (in_both x g.removed.before g.removed.after (subst (InList x) g.removed.new_is i)) [
      | inl a ↦ in_left x g.removed.before (e ∷ g.removed.after) a
      | inr b ↦ in_right x g.removed.before (e ∷ g.removed.after) (inr b)
    ])

    inside : (x : Entry) → InList x (entries (beside f.left (twig p new f.rest))) → InList x (entries below)
    inside x i = subst (InList x) (sym (found_entries p below f)) (elim (in_both x (entries f.left) (entries_of new ++ entries f.rest) (subst (InList x) (entries-beside f.left (twig p new f.rest)) i)) [
      | inl a ↦ in_left x (entries f.left) (entries_of f.here ++ entries f.rest) a
      | inr b ↦ in_right x (entries f.left) (entries_of f.here ++ entries f.rest) (elim (in_both x (entries_of new) (entries f.rest) b) [ inl y ↦ in_left x (entries_of f.here) (entries f.rest) (kept x y) | inr z ↦ in_right x (entries_of f.here) (entries f.rest) z ])
    ])
