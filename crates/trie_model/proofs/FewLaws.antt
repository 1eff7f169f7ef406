-- A trie that stands has no more cells than there are references: none is met twice.
use Rattle.std.proofs.Common.{◌≡◌, ℕ, zero, suc, ◌+◌, ◌-◌, ◌^◌, ◌<◌, ◌≤◌, inl, inr, true, cond, eqb, ltb, List, [], ◌∷◌, length, count_by, arith, refl, ◌∙◌, ap}
use Rattle.std.proofs.lemmas.Bool.{cases_lt}
use Rattle.std.proofs.lemmas.Bool.Decides.{nat_tests}
use Rattle.std.proofs.lemmas.List.Sums.{sum_by-cons}
use Rattle.std.specs.List.{list_all}
use Rattle.packed_node.specs.declared.Cell.{Cell}
use Rattle.trie_model.specs.Extents.{Extents, AreExtents, WithinExtents}
use Rattle.trie_model.specs.Extents.Extents.{last, linked}
use Rattle.trie_model.specs.Keys.{Entry}
use Rattle.trie_model.specs.Trees.{Tree, Twigs, count, IsTree, AreTwigs}
use Rattle.trie_model.specs.Trees.Tree.{leaf, branch}
use Rattle.trie_model.specs.Trees.Twigs.{none, twig}
use Rattle.trie_model.specs.Reach.{reach, reach_below, WithinTree, Within}
use Rattle.trie_model.specs.Memory.{IsTrieAt}
use Rattle.trie_model.proofs.ExtentLaws.{both_true, first_true, second_true}
use Rattle.trie_model.proofs.ReachLaws.{tests}

-- how many of the numbers are below m
below : ℕ → List ℕ → ℕ
below zero xs = 0
below (suc m) xs = count_by (λ x. eqb x m) xs + below m xs

counts-cons : (m x : ℕ) (xs : List ℕ) → count_by (λ y. eqb y m) (x ∷ xs) ≡ cond (eqb x m) 1 0 + count_by (λ y. eqb y m) xs
counts-cons m x xs = sum_by-cons (λ y. cond (eqb y m) 1 0) x xs

eqb_one : (x m : ℕ) → x ≡ m → ◌≡◌ {A = ℕ} (cond (eqb x m) 1 0) 1
eqb_one x m e = grind (arith, nat_tests)

eqb_none : (x m : ℕ) → (x ≡ m → ⊥) → ◌≡◌ {A = ℕ} (cond (eqb x m) 1 0) 0
eqb_none x m e = grind (arith, nat_tests)

below-past : (m x : ℕ) (xs : List ℕ) → m ≤ x → below m (x ∷ xs) ≡ below m xs
unfolding below
below-past zero x xs l = refl
below-past (suc m) x xs l =
    let a = counts-cons m x xs in let b = eqb_none x m (λ e. omega arith) in let c = below-past m x xs (omega arith) in omega arith

below-cons : (m x : ℕ) (xs : List ℕ) → x < m → below m (x ∷ xs) ≡ suc (below m xs)
unfolding below
below-cons zero x xs l = absurd (omega arith)
below-cons (suc m) x xs l = elim (cases_lt x m) [
  | inl lt ↦ (let a = counts-cons m x xs in let b = eqb_none x m (λ e. omega arith) in let c = below-cons m x xs lt in omega arith)
  | inr ge ↦ (let a = counts-cons m x xs in let b = eqb_one x m (omega arith) in let c = below-past m x xs ge in omega arith)
]

below_le : (m : ℕ) (xs : List ℕ) → ((q : ℕ) → count_by (λ x. eqb x q) xs ≤ 1) → below m xs ≤ m
unfolding below
below_le zero xs once = omega arith
below_le (suc m) xs once = let a = once m in let b = below_le m xs once in omega arith

ltb_tells : (a b : ℕ) → ltb a b ≡ true → a < b
ltb_tells a b e = grind (arith, nat_tests)

ltb_true : (a b : ℕ) → a < b → ltb a b ≡ true
ltb_true a b e = grind (arith, nat_tests)

none_below : (m : ℕ) → below m [] ≡ 0
unfolding below
none_below zero = refl
none_below (suc m) = let a = none_below m in omega arith

all_below : (m : ℕ) (xs : List ℕ) → list_all (λ x. ltb x m) xs ≡ true → below m xs ≡ length xs
all_below m [] h = none_below m
all_below m (x ∷ xs) h =
    let l = ltb_tells x m (first_true (ltb x m) (list_all (λ y. ltb y m) xs) h) in
    below-cons m x xs l ∙ ap suc (all_below m xs (second_true (ltb x m) (list_all (λ y. ltb y m) xs) h))

-- numbers below m that differ are at most m
pub few : (m : ℕ) (xs : List ℕ) → list_all (λ x. ltb x m) xs ≡ true → ((q : ℕ) → count_by (λ x. eqb x q) xs ≤ 1) → length xs ≤ m
few m xs all once = let a = all_below m xs all in let b = below_le m xs once in omega arith

inside_extents : (m n : ℕ) (x : Extents) → 2 ^ 22 ≤ m → AreExtents n x → WithinExtents (λ q. ltb q m) n x
inside_extents m n (last r) l h = λ k j. ltb_true (r + k) m (let a = h.1.inside in omega arith)
inside_extents m n (linked r x) l h = (λ k j. ltb_true (r + k) m (let a = h.1.inside in omega arith), inside_extents m (n - 4080) x l h.2)

mutual
  inside : (m low : ℕ) (t : Tree) → 2 ^ 22 ≤ m → IsTree low t → WithinTree (λ q. ltb q m) t
  inside m low (leaf e x) l h = inside_extents m (length e.item) x l h.1
  inside m low (branch o w under) l h = inside_row m o 0 w under l (let a = h.2.inside in a) h.5

  inside_row : (m o lo r : ℕ) (ts : Twigs) → 2 ^ 22 ≤ m → r + count ts ≤ 2 ^ 22 → AreTwigs o lo ts → Within (λ q. ltb q m) r ts
  inside_row m o lo r none l c a = tt
  inside_row m o lo r (twig p t rest) l c a = (ltb_true r m (omega arith), inside m (suc o) t l a.3, inside_row m o (suc p) (suc r) rest l (omega arith) a.4)

pub few_cells : (m : ℕ) (has : ℕ → Cell → Type 0) (r : ℕ) (t : Tree) (version : List Entry) → 2 ^ 22 ≤ m → IsTrieAt has r t version → length (reach r t) ≤ m
few_cells m has r t version l h =
    few m (reach r t) (both_true (ltb r m) (list_all (λ q. ltb q m) (reach_below t)) (ltb_true r m (let a = h.inside in omega arith)) (tests (λ q. ltb q m) t (inside m 0 t l h.shape))) h.once
