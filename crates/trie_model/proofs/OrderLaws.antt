-- The entries of a tree rise strictly, and nodes are a function of the tree.
use Rattle.std.proofs.Common.{◌≡◌, ℕ, suc, ◌<◌, ◌≤◌, ◌⊎◌, List, [], ◌∷◌, ◌++◌, arith, inl, inr, refl, sym, ◌∙◌, ap, subst}
use Rattle.std.proofs.lemmas.Bool.{cases_lt}
use Rattle.trie_model.proofs.KeyLaws.{in_left, in_right, in_both}
use Rattle.trie_model.proofs.SplitLaws.{keys_upper, rising_of}
use Rattle.trie_model.specs.Changes.{Inserted}
use Rattle.trie_model.specs.Keys.{at, Entry, Less, InList, Rises}
use Rattle.trie_model.specs.Trees.{Tree, Twigs, entries_of, entries, Agree, IsTree, AreTwigs}
use Rattle.trie_model.specs.Trees.Tree.{leaf, branch}
use Rattle.trie_model.specs.Trees.Twigs.{none, twig}

pub rises_append : (xs ys : List Entry) → Rises xs → Rises ys → ((x y : Entry) → InList x xs → InList y ys → Less x.key y.key) → Rises (xs ++ ys)
rises_append [] ys a b across = b
rises_append (x ∷ xs) ys a b across =
    (λ y i. elim (in_both y xs ys i) [ inl u ↦ a.0 y u | inr v ↦ across x y (inl refl) v ], rises_append xs ys a.1 b (λ u v i j. across u v (inr i) j))

abbrev mutual
  pub rises_tree : (low : ℕ) (t : Tree) → IsTree low t → Rises (entries_of t)
  rises_tree low (leaf e w) h = ((λ y i. absurd i), tt)
  rises_tree low (branch o w below) h = rises_of o 0 below h.5 h.4

  pub rises_of : (o lo : ℕ) (ts : Twigs) → AreTwigs o lo ts → Agree o (entries ts) → Rises (entries ts)
  rises_of o lo none h a = tt
  rises_of o lo (twig p t rest) h a =
      rises_append (entries_of t) (entries rest) (rises_tree (suc o) t h.3) (rises_of o (suc p) rest h.4 (λ x y i j. a x y (in_right x (entries_of t) (entries rest) i) (in_right y (entries_of t) (entries rest) j)))
      (λ x y i j. record {
        place = o;
        same = a x y (in_left x (entries_of t) (entries rest) i) (in_right y (entries_of t) (entries rest) j);
        lower = (let u : at x.key o ≡ p = h.2 x i in let v : suc p ≤ at y.key o = keys_upper o (suc p) (suc p) 47 rest h.4 (rising_of o (suc p) rest (let b = h.1 in omega arith) h.4) y j in omega arith);
      })

pub less_not_back : (a b : List ℕ) → Less a b → Less b a → ⊥
less_not_back a b x y = go (cases_lt x.place y.place)
  where
    go : (x.place < y.place) ⊎ (y.place ≤ x.place) → ⊥
    go (inl l) = let e = y.same x.place l in let m = x.lower in omega arith
    go (inr l) = elim (cases_lt y.place x.place) [
      | inl k ↦ (let e = x.same y.place k in let m = y.lower in omega arith)
      | inr k ↦ (let e : x.place ≡ y.place = omega arith in let m = x.lower in let n = subst (λ (i : ℕ). at b i < at a i) (sym e) y.lower in omega arith)
    ]

-- where an entry is put in is determined
pub same_put : (e : Entry) (before after other rest : List Entry) → before ++ after ≡ other ++ rest →
    ((x : Entry) → InList x before → Less x.key e.key) → ((x : Entry) → InList x after → Less e.key x.key) →
    ((x : Entry) → InList x other → Less x.key e.key) → ((x : Entry) → InList x rest → Less e.key x.key) → before ++ (e ∷ after) ≡ other ++ (e ∷ rest)
same_put e [] after [] rest same bl au ol ru = ap (λ (es : List Entry). e ∷ es) same
same_put e [] after (y ∷ other) rest same bl au ol ru = absurd (less_not_back y.key e.key (ol y (inl refl)) (au y (subst (InList y) (sym same) (inl refl))))
same_put e (x ∷ before) after [] rest same bl au ol ru = absurd (less_not_back x.key e.key (bl x (inl refl)) (ru x (subst (InList x) same (inl refl))))
same_put e (x ∷ before) after (y ∷ other) rest same bl au ol ru =
    let h : x ≡ y = cc in let t : before ++ after ≡ other ++ rest = cc in
    let i = same_put e before after other rest t (λ u k. bl u (inr k)) au (λ u k. ol u (inr k)) ru in
    ap (λ (z : Entry). z ∷ (before ++ (e ∷ after))) h ∙ ap (λ (es : List Entry). y ∷ es) i

pub one_insertion : (e : Entry) (old new other : List Entry) → Inserted e old new → Inserted e old other → new ≡ other
one_insertion e old new other a b = a.new_is ∙ same_put e a.before a.after b.before b.after (sym a.old_is ∙ b.old_is) a.lower a.upper b.lower b.upper ∙ sym b.new_is
