-- What counts in all chunks is at most what a trie reaches.
use Rattle.std.proofs.Common.{◌≡◌, ℕ, zero, suc, ◌+◌, ◌-◌, ◌/◌, ◌<◌, ◌≤◌, Bool, true, false, List, [], ◌∷◌, cond, length, slice_index, inl, inr, arith, refl, ap}
use Rattle.std.specs.Prelude.{◌==◌}
use Rattle.std.proofs.lemmas.Bool.{cases_eq}
use Rattle.std.proofs.lemmas.Bool.Decides.{nat_tests}
use Rattle.trie_model.specs.Extents.{Extents, content_cells, linked_cells, row, weigh_extents}
use Rattle.trie_model.specs.Extents.Extents.{last, linked}
use Rattle.trie_model.specs.Reach.{in_chunk, weigh_tree, weigh}
use Rattle.trie_model.specs.Trees.{Tree, Twigs}
use Rattle.trie_model.specs.Trees.Tree.{leaf, branch}
use Rattle.trie_model.specs.Trees.Twigs.{none, twig}
use Rattle.trie_model.proofs.SizeLaws.{one, row_ones}
use Rattle.evacuate.specs.Fillings.{old_live}

-- the sum over n chunks from a on
abbrev sum_from : ℕ → ℕ → (ℕ → ℕ) → ℕ
sum_from zero a f = 0
sum_from (suc n) a f = f a + sum_from n (suc a) f

sum_add : (n a : ℕ) (f g : ℕ → ℕ) → sum_from n a (λ k. f k + g k) ≡ sum_from n a f + sum_from n a g
sum_add zero a f g = refl
sum_add (suc n) a f g = let e = sum_add n (suc a) f g in omega arith

outside : (k q : ℕ) → (q / 1024 ≡ k → ⊥) → ◌≡◌ {A = ℕ} (in_chunk k q) 0
outside k q ne = grind (arith, nat_tests)

at_most : (k q : ℕ) → in_chunk k q ≤ 1
at_most k q = go (q / 1024 == k)
  where
    go : (b : Bool) → cond {A = ℕ} b 1 0 ≤ 1
    go true = omega arith
    go false = omega arith

none_from : (q n a : ℕ) → q / 1024 < a → sum_from n a (λ k. in_chunk k q) ≡ 0
none_from q zero a l = refl
none_from q (suc n) a l = let e = outside a q (λ s. omega arith) in let r = none_from q n (suc a) (omega arith) in omega arith

one_from : (q n a : ℕ) → sum_from n a (λ k. in_chunk k q) ≤ 1
one_from q zero a = omega arith
one_from q (suc n) a = elim (cases_eq (q / 1024) a) [
  | inl s ↦ (let m = at_most a q in let r = none_from q n (suc a) (omega arith) in omega arith)
  | inr ne ↦ (let e = outside a q ne in let r = one_from q n (suc a) in omega arith)
]

row_from : (n a r m : ℕ) → sum_from n a (λ k. row (in_chunk k) r m) ≤ m
row_from n a r zero = let z = none n a in omega arith
  where
    none : (n a : ℕ) → sum_from n a (λ k. 0) ≡ 0
    none zero a = refl
    none (suc n) a = let e = none n (suc a) in omega arith
row_from n a r (suc m) = let e = sum_add n a (λ k. in_chunk k r) (λ k. row (in_chunk k) (suc r) m) in let h = one_from r n a in let t = row_from n a (suc r) m in omega arith

extents_from : (n a m : ℕ) (x : Extents) → sum_from n a (λ k. weigh_extents (in_chunk k) m x) ≤ weigh_extents one m x
extents_from n a m (last r) = let h = row_from n a r (content_cells m) in let o = row_ones r (content_cells m) in omega arith
extents_from n a m (linked r x) =
    let d = sum_add n a (λ k. row (in_chunk k) r linked_cells) (λ k. weigh_extents (in_chunk k) (m - 4080) x) in
    let h = row_from n a r linked_cells in let o = row_ones r linked_cells in let y = extents_from n a (m - 4080) x in omega arith

abbrev mutual
  tree_from : (n a : ℕ) (t : Tree) → sum_from n a (λ k. weigh_tree (in_chunk k) t) ≤ weigh_tree one t
  tree_from n a (leaf e x) = extents_from n a (length e.item) x
  tree_from n a (branch o w below) = twigs_from n a w below

  twigs_from : (n a r : ℕ) (ts : Twigs) → sum_from n a (λ k. weigh (in_chunk k) r ts) ≤ weigh one r ts
  twigs_from n a r none = let z = row_from n a r 0 in omega arith
  twigs_from n a r (twig p t rest) =
      let d = sum_add n a (λ k. in_chunk k r + weigh_tree (in_chunk k) t) (λ k. weigh (in_chunk k) (suc r) rest) in
      let e = sum_add n a (λ k. in_chunk k r) (λ k. weigh_tree (in_chunk k) t) in
      let h = one_from r n a in let x = tree_from n a t in let y = twigs_from n a (suc r) rest in omega arith

old_from : (given : List Bool) (live : List ℕ) (a : ℕ) (f : ℕ → ℕ) → ((i : ℕ) → i < length live → slice_index live i ≤ f (a + i)) → old_live given live ≤ sum_from (length live) a f
old_from [] live a f h = omega arith
old_from (g ∷ given) [] a f h = omega arith
old_from (g ∷ given) (x ∷ live) a f h =
    let here = h 0 (omega arith) in
    let e = ap f (let z : a + 0 ≡ a = omega arith in z) in
    let rest = old_from given live (suc a) f (λ i l. let m = h (suc i) (omega arith) in let s = ap f (let z : a + suc i ≡ suc a + i = omega arith in z) in omega arith) in
    let least = some g x in omega arith
  where
    some : (g : Bool) (x : ℕ) → cond {A = ℕ} g x 0 ≤ x
    some true x = omega arith
    some false x = omega arith

-- the cells that count in old chunks are among those that a root reaches
pub old_reached : (given : List Bool) (live : List ℕ) (r : ℕ) (t : Tree) → ((k : ℕ) → slice_index live k ≡ in_chunk k r + weigh_tree (in_chunk k) t) → old_live given live ≤ 1 + weigh_tree one t
old_reached given live r t counted =
    let o = old_from given live 0 (λ k. in_chunk k r + weigh_tree (in_chunk k) t) (λ i l. let c = counted i in let s = ap (λ (k : ℕ). in_chunk k r + weigh_tree (in_chunk k) t) (let z : 0 + i ≡ i = omega arith in z) in omega arith) in
    let e = sum_add (length live) 0 (λ k. in_chunk k r) (λ k. weigh_tree (in_chunk k) t) in
    let h = one_from r (length live) 0 in let x = tree_from (length live) 0 t in omega arith
