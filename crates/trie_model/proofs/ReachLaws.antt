-- The sum of what the reached references weigh, and a test that each passes, are those of the list of them.
use Rattle.std.proofs.Common.{◌≡◌, ℕ, suc, ◌+◌, Bool, true, ◌++◌, length, count_by, eqb, cond, sum_by, arith, refl, sym, ◌∙◌}
use Rattle.std.proofs.lemmas.List.Sums.{sum_by-cons, sum_by-append}
use Rattle.std.proofs.lemmas.List.Folds.{list_all-append}
use Rattle.std.specs.List.{list_all}
use Rattle.trie_model.proofs.ExtentLaws.{both_true, first_true, second_true, extents_weighed, extents_test, extents_tested}
use Rattle.trie_model.specs.Trees.{Tree, Twigs}
use Rattle.trie_model.specs.Trees.Tree.{leaf, branch}
use Rattle.trie_model.specs.Trees.Twigs.{none, twig}
use Rattle.trie_model.specs.Reach.{reach, live_in, in_chunk, reach_below, reach_twigs, weigh_tree, weigh, WithinTree, Within}

mutual
  pub weighed : (w : ℕ → ℕ) (t : Tree) → sum_by w (reach_below t) ≡ weigh_tree w t
  weighed w (leaf e x) = extents_weighed w (length e.item) x
  weighed w (branch o r below) = weighed_in w r below

  weighed_in : (w : ℕ → ℕ) (r : ℕ) (ts : Twigs) → sum_by w (reach_twigs r ts) ≡ weigh w r ts
  weighed_in w r none = refl
  weighed_in w r (twig p t rest) =
      let a = weighed w t in let b = weighed_in w (suc r) rest in let c = sum_by-append w (reach_below t) (reach_twigs (suc r) rest) in
      sum_by-cons w r (reach_below t ++ reach_twigs (suc r) rest) ∙ omega arith

-- how often a reference is met, and how many of them lie in a chunk
pub met : (q r : ℕ) (t : Tree) → count_by (λ x. eqb x q) (reach r t) ≡ cond (eqb r q) 1 0 + weigh_tree (λ x. cond (eqb x q) 1 0) t
met q r t = let a = weighed (λ x. cond (eqb x q) 1 0) t in sum_by-cons (λ x. cond (eqb x q) 1 0) r (reach_below t) ∙ omega arith

pub live_is : (chunk r : ℕ) (t : Tree) → live_in chunk r t ≡ in_chunk chunk r + weigh_tree (in_chunk chunk) t
live_is chunk r t = let a = weighed (in_chunk chunk) t in sum_by-cons (in_chunk chunk) r (reach_below t) ∙ omega arith

mutual
  pub tests : (P : ℕ → Bool) (t : Tree) → WithinTree P t → list_all P (reach_below t) ≡ true
  tests P (leaf e x) h = extents_test P (length e.item) x h
  tests P (branch o r below) h = tests_in P r below h

  tests_in : (P : ℕ → Bool) (r : ℕ) (ts : Twigs) → Within P r ts → list_all P (reach_twigs r ts) ≡ true
  tests_in P r none h = refl
  tests_in P r (twig p t rest) h =
      both_true (P r) (list_all P (reach_below t ++ reach_twigs (suc r) rest)) h.0
      (list_all-append P (reach_below t) (reach_twigs (suc r) rest) ∙ both_true (list_all P (reach_below t)) (list_all P (reach_twigs (suc r) rest)) (tests P t h.1) (tests_in P (suc r) rest h.2))

mutual
  pub tested : (P : ℕ → Bool) (t : Tree) → list_all P (reach_below t) ≡ true → WithinTree P t
  tested P (leaf e x) h = extents_tested P (length e.item) x h
  tested P (branch o r below) h = tested_in P r below h

  tested_in : (P : ℕ → Bool) (r : ℕ) (ts : Twigs) → list_all P (reach_twigs r ts) ≡ true → Within P r ts
  tested_in P r none h = tt
  tested_in P r (twig p t rest) h =
      let more = second_true (P r) (list_all P (reach_below t ++ reach_twigs (suc r) rest)) h in
      let parts = sym (list_all-append P (reach_below t) (reach_twigs (suc r) rest)) ∙ more in (
        first_true (P r) (list_all P (reach_below t ++ reach_twigs (suc r) rest)) h,
        tested P t (first_true (list_all P (reach_below t)) (list_all P (reach_twigs (suc r) rest)) parts),
        tested_in P (suc r) rest (second_true (list_all P (reach_below t)) (list_all P (reach_twigs (suc r) rest)) parts),
      )
