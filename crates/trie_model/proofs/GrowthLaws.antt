-- What a tree becomes when an entry is put in.
use Rattle.std.proofs.Common.{◌≡◌, ℕ, suc, ◌<◌, ◌≤◌, List, [], ◌∷◌, ◌++◌, append-nil, length, arith, inl, inr, refl, sym, ◌∙◌, ap, subst}
use Rattle.trie_model.proofs.KeyLaws.{in_left, in_both}
use Rattle.trie_model.specs.Changes.{Nearest, Grown, Deep}
use Rattle.trie_model.specs.Extents.{Extents, AreExtents, IsRow}
use Rattle.trie_model.specs.Keys.{at, Same, Entry, IsEntry, InList}
use Rattle.trie_model.specs.Trees.{Tree, Twigs, entries_of, entries, count, AllAt, Agree, IsTree, AreTwigs}
use Rattle.trie_model.specs.Trees.Tree.{leaf, branch}
use Rattle.trie_model.specs.Trees.Twigs.{none, twig}

abbrev mutual
  pub each_entry : (low : ℕ) (t : Tree) → IsTree low t → (x : Entry) → InList x (entries_of t) → IsEntry x
  each_entry low (leaf e w) h x i = elim i [ inl y ↦ subst IsEntry (sym y) h.0 | inr z ↦ absurd z ]
  each_entry low (branch o w below) h x i = each_of o 0 below h.5 x i

  pub each_of : (o low : ℕ) (ts : Twigs) → AreTwigs o low ts → (x : Entry) → InList x (entries ts) → IsEntry x
  each_of o low none h x i = absurd i
  each_of o low (twig p t rest) h x i = elim (in_both x (entries_of t) (entries rest) i) [ inl y ↦ each_entry (suc o) t h.3 x y | inr z ↦ each_of o (suc p) rest h.4 x z ]

abbrev mutual
  pub some_entry : (low : ℕ) (t : Tree) → IsTree low t → (x : Entry) × InList x (entries_of t)
  some_entry low (leaf e w) h = (e, inl refl)
  some_entry low (branch o w below) h = some_of o 0 below h.5 h.3

  pub some_of : (o low : ℕ) (ts : Twigs) → AreTwigs o low ts → 2 ≤ count ts → (x : Entry) × InList x (entries ts)
  some_of o low none h n = absurd (omega arith)
  some_of o low (twig p t rest) h n = let s = some_entry (suc o) t h.3 in (s.0, in_left s.0 (entries_of t) (entries rest) s.1)

-- all keys have the position p at d, and agree with k before it
pub record Alone (d : ℕ) (k : List ℕ) (p : ℕ) (t : Tree) : Type 0 where
  pub all : AllAt d p (entries_of t)
  pub same : (x : Entry) → InList x (entries_of t) → Same d k x.key
  pub deeper : IsTree (suc d) t

pub alone_of : (low d : ℕ) (k : List ℕ) (p : ℕ) (t : Tree) → IsTree low t → Nearest d k p (entries_of t) → Deep d t → Alone d k p t
alone_of low d k p (leaf e w) h n deep =
    let only : n.near ≡ e = elim n.there [ inl y ↦ y | inr z ↦ absurd z ] in
    record {
      all = λ x i. elim i [ inl y ↦ ap (λ (z : Entry). at z.key d) (y ∙ sym only) ∙ n.position | inr z ↦ absurd z ];
      same = λ x i. elim i [ inl y ↦ (λ j l. n.same j l ∙ ap (λ (z : Entry). at z.key j) (only ∙ sym y)) | inr z ↦ absurd z ];
      deeper = h;
    }
alone_of low d k p (branch o w below) h n deep = record {
  all = λ x i. h.4 x n.near i n.there d deep ∙ n.position;
  same = λ x i j l. n.same j l ∙ h.4 n.near x n.there i j (omega arith);
  deeper = (deep, h.1, h.2, h.3, h.4, h.5);
}

-- two twigs, the new leaf first
pub split_low : (low d w p : ℕ) (at_x : Extents) (e : Entry) (t : Tree) → low ≤ d → d ≤ 503 → IsRow w 2 → p < 47 → IsEntry e → AreExtents (length e.item) at_x → at e.key d < p → Alone d e.key p t →
    Grown e low t (branch d w (twig (at e.key d) (leaf e at_x) (twig p t none)))
split_low low d w p at_x e t a b c l is f lt al = record {
  tree = (a, b, c, omega arith, agree, (omega arith, omega arith, alike, (is, f), (lt, l, al.all, al.deeper, tt)));
  put = record { before = []; after = entries_of t; old_is = refl; new_is = ap (λ (es : List Entry). e ∷ es) (append-nil (entries_of t)); lower = λ x i. absurd i; upper = λ x i. record { place = d; same = al.same x i; lower = (let q = al.all x i in omega arith) } };
}
  where
    alike : AllAt d (at e.key d) (e ∷ [])
    alike x i = elim i [ inl y ↦ ap (λ (z : Entry). at z.key d) y | inr z ↦ absurd z ]

    like : (x : Entry) → InList x (e ∷ (entries_of t ++ [])) → Same d e.key x.key
    like x i = elim i [ inl y ↦ (λ j k. ap (λ (z : Entry). at z.key j) (sym y)) | inr z ↦ elim (in_both x (entries_of t) [] z) [ inl u ↦ al.same x u | inr v ↦ absurd v ] ]

    agree : Agree d (e ∷ (entries_of t ++ []))
    agree x y i j k m = sym (like x i k m) ∙ like y j k m

pub split_high : (low d w p : ℕ) (at_x : Extents) (e : Entry) (t : Tree) → low ≤ d → d ≤ 503 → IsRow w 2 → at e.key d < 47 → p < 47 → IsEntry e → AreExtents (length e.item) at_x → p < at e.key d → Alone d e.key p t →
    Grown e low t (branch d w (twig p t (twig (at e.key d) (leaf e at_x) none)))
split_high low d w p at_x e t a b c l m is f lt al = record {
  tree = (a, b, c, omega arith, agree, (omega arith, m, al.all, al.deeper, (lt, l, alike, (is, f), tt)));
  put = record { before = entries_of t; after = []; old_is = sym (append-nil (entries_of t)); new_is = refl; lower = λ x i. record { place = d; same = λ j k. sym (al.same x i j k); lower = (let q = al.all x i in omega arith) }; upper = λ x i. absurd i };
}
  where
    alike : AllAt d (at e.key d) (e ∷ [])
    alike x i = elim i [ inl y ↦ ap (λ (z : Entry). at z.key d) y | inr z ↦ absurd z ]

    like : (x : Entry) → InList x (entries_of t ++ (e ∷ [])) → Same d e.key x.key
    like x i = elim (in_both x (entries_of t) (e ∷ []) i) [ inl u ↦ al.same x u | inr v ↦ elim v [ inl y ↦ (λ j k. ap (λ (z : Entry). at z.key j) (sym y)) | inr z ↦ absurd z ] ]

    agree : Agree d (entries_of t ++ (e ∷ []))
    agree x y i j k n = sym (like x i k n) ∙ like y j k n
