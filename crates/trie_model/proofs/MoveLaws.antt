-- A tree stays where it lies, or its twigs are copied, from one memory to another.
use Rattle.std.proofs.Common.{◌≡◌, ℕ, zero, suc, ◌+◌, ◌<◌, Bool, true, length, arith, subst}
use Rattle.packed_node.specs.declared.Cell.{Cell}
use Rattle.trie_model.proofs.ExtentLaws.{item_kept, each_weaker}
use Rattle.trie_model.specs.Memory.{top_cell, Beneath, Lie}
use Rattle.trie_model.specs.Reach.{WithinTree, Within}
use Rattle.trie_model.specs.Trees.{Tree, Twigs, count}
use Rattle.trie_model.specs.Trees.Tree.{leaf, branch}
use Rattle.trie_model.specs.Trees.Twigs.{none, twig}

-- what passes the test is kept
abbrev pub Keeps : (ℕ → Bool) → (ℕ → Cell → Type 0) → (ℕ → Cell → Type 0) → Type 0
Keeps P has new = (q : ℕ) (c : Cell) → P q ≡ true → has q c → new q c

-- n cells are copied
abbrev pub Copied : ℕ → ℕ → ℕ → (ℕ → Cell → Type 0) → (ℕ → Cell → Type 0) → Type 0
Copied n r s has new = (i : ℕ) (c : Cell) → i < n → has (r + i) c → new (s + i) c

abbrev mutual
  pub beneath_kept : (P : ℕ → Bool) (has new : ℕ → Cell → Type 0) → Keeps P has new → (t : Tree) → WithinTree P t → Beneath has t → Beneath new t
  beneath_kept P has new keep (leaf e x) within h = item_kept (λ q. P q ≡ true) has new keep x e.item within h
  beneath_kept P has new keep (branch o w below) within h = lie_kept P has new keep w below within h

  pub lie_kept : (P : ℕ → Bool) (has new : ℕ → Cell → Type 0) → Keeps P has new → (r : ℕ) (ts : Twigs) → Within P r ts → Lie has r ts → Lie new r ts
  lie_kept P has new keep r none within h = tt
  lie_kept P has new keep r (twig p t rest) within h = (keep r (top_cell t) within.0 h.0, beneath_kept P has new keep t within.1 h.1, lie_kept P has new keep (suc r) rest within.2 h.2)

pub lie_moved : (P : ℕ → Bool) (has new : ℕ → Cell → Type 0) → Keeps P has new → (r s : ℕ) (ts : Twigs) → Copied (count ts) r s has new → Within P r ts → Lie has r ts → Lie new s ts
lie_moved P has new keep r s none copied within h = tt
lie_moved P has new keep r s (twig p t rest) copied within h = (
  let a : r ≡ r + 0 = omega arith in let b : s + 0 ≡ s = omega arith in subst (λ (n : ℕ). new n (top_cell t)) b (copied 0 (top_cell t) (omega arith) (subst (λ (n : ℕ). has n (top_cell t)) a h.0)),
  beneath_kept P has new keep t within.1 h.1,
  lie_moved P has new keep (suc r) (suc s) rest (λ i c l there. let a : suc r + i ≡ r + suc i = omega arith in let b : s + suc i ≡ suc s + i = omega arith in
      subst (λ (n : ℕ). new n c) b (copied (suc i) c (omega arith) (subst (λ (n : ℕ). has n c) a there))) within.2 h.2,
)

pub within_moved : (P : ℕ → Bool) (r s : ℕ) (ts : Twigs) → ((i : ℕ) → i < count ts → P (s + i) ≡ true) → Within P r ts → Within P s ts
within_moved P r s none all h = tt
within_moved P r s (twig p t rest) all h = (
  let b : s + 0 ≡ s = omega arith in subst (λ (n : ℕ). P n ≡ true) b (all 0 (omega arith)),
  h.1,
  within_moved P (suc r) (suc s) rest (λ i l. let b : s + suc i ≡ suc s + i = omega arith in subst (λ (n : ℕ). P n ≡ true) b (all (suc i) (omega arith))) h.2,
)

abbrev mutual
  pub tree_weaker : (P Q : ℕ → Bool) → ((q : ℕ) → P q ≡ true → Q q ≡ true) → (t : Tree) → WithinTree P t → WithinTree Q t
  tree_weaker P Q weak (leaf e x) h = each_weaker (λ q. P q ≡ true) (λ q. Q q ≡ true) weak (length e.item) x h
  tree_weaker P Q weak (branch o w below) h = twigs_weaker P Q weak w below h

  pub twigs_weaker : (P Q : ℕ → Bool) → ((q : ℕ) → P q ≡ true → Q q ≡ true) → (r : ℕ) (ts : Twigs) → Within P r ts → Within Q r ts
  twigs_weaker P Q weak r none h = tt
  twigs_weaker P Q weak r (twig p t rest) h = (weak r h.0, tree_weaker P Q weak t h.1, twigs_weaker P Q weak (suc r) rest h.2)

pub lie_cell : (has : ℕ → Cell → Type 0) (r : ℕ) (ts : Twigs) → Lie has r ts → (j : ℕ) → j < count ts → (c : Cell) × has (r + j) c
lie_cell has r none h j l = absurd (omega arith)
lie_cell has r (twig p t rest) h zero l = let e : r ≡ r + 0 = omega arith in (top_cell t, subst (λ (n : ℕ). has n (top_cell t)) e h.0)
lie_cell has r (twig p t rest) h (suc j) l = let x = lie_cell has (suc r) rest h.2 j (omega arith) in let e : suc r + j ≡ r + suc j = omega arith in (x.0, subst (λ (n : ℕ). has n x.0) e x.1)

pub within_cell : (P : ℕ → Bool) (r : ℕ) (ts : Twigs) → Within P r ts → (j : ℕ) → j < count ts → P (r + j) ≡ true
within_cell P r none h j l = absurd (omega arith)
within_cell P r (twig p t rest) h zero l = let e : r ≡ r + 0 = omega arith in subst (λ (n : ℕ). P n ≡ true) e h.0
within_cell P r (twig p t rest) h (suc j) l = let e : suc r + j ≡ r + suc j = omega arith in subst (λ (n : ℕ). P n ≡ true) e (within_cell P (suc r) rest h.2 j (omega arith))

pub copied_at : (has new : ℕ → Cell → Type 0) (n m r s u v : ℕ) → n ≡ m → r ≡ s → u ≡ v → Copied n r u has new → Copied m s v has new
copied_at has new n m r s u v a b c h =
    subst (λ (x : ℕ). Copied x s v has new) a (subst (λ (x : ℕ). Copied n x v has new) b (subst (λ (x : ℕ). Copied n r x has new) c h))
