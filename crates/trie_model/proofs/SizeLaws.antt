-- How many cells a tree has, as a sum along it.
use Rattle.std.proofs.Common.{◌≡◌, ℕ, zero, suc, ◌+◌, sum_by, List, [], ◌∷◌, length, arith, refl, sym, ◌∙◌, ap}
use Rattle.std.proofs.lemmas.List.Sums.{sum_by-cons}
use Rattle.trie_model.specs.Extents.{cells_in, row}
use Rattle.trie_model.specs.Keys.{Entry, IsEntry}
use Rattle.trie_model.specs.Reach.{reach_below, weigh_tree, weigh}
use Rattle.trie_model.specs.Shape.{cells, nodes, nodes_within}
use Rattle.trie_model.specs.Trees.{Tree, Twigs, entries_of, IsTree, beside}
use Rattle.trie_model.specs.Trees.Tree.{leaf, branch}
use Rattle.trie_model.specs.Trees.Twigs.{none, twig}
use Rattle.trie_model.proofs.ExtentLaws.{laid, weigh_ones}
use Rattle.trie_model.proofs.ReachLaws.{weighed}
use Rattle.trie_model.proofs.ShapeLaws.{cells_are}

abbrev pub one : ℕ → ℕ
one q = 1

-- of a tree, with the cell of its top, and of a branch's twigs
abbrev pub size : Tree → ℕ
size t = suc (weigh_tree one t)

abbrev pub twig_sizes : Twigs → ℕ
twig_sizes none = 0
twig_sizes (twig p t rest) = size t + twig_sizes rest

pub row_ones : (r n : ℕ) → row one r n ≡ n
row_ones r zero = refl
row_ones r (suc n) = let a = row_ones (suc r) n in omega arith

twig_sizes_weigh : (r : ℕ) (ts : Twigs) → weigh one r ts ≡ twig_sizes ts
twig_sizes_weigh r none = refl
twig_sizes_weigh r (twig p t rest) = let a = twig_sizes_weigh (suc r) rest in omega arith

sum_ones : (xs : List ℕ) → sum_by one xs ≡ length xs
sum_ones [] = refl
sum_ones (x ∷ xs) = let a = sum_ones xs in let b = sum_by-cons one x xs in omega arith

pub size_is : (low : ℕ) (t : Tree) → IsTree low t → cells (entries_of t) ≡ size t
size_is low t h = sym (cells_are low 0 t h) ∙ ap suc (sym (sum_ones (reach_below t)) ∙ weighed one t)

pub size_branch : (o w : ℕ) (below : Twigs) → size (branch o w below) ≡ suc (twig_sizes below)
size_branch o w below = ap suc (twig_sizes_weigh w below)

pub twig_sizes-beside : (a b : Twigs) → twig_sizes (beside a b) ≡ twig_sizes a + twig_sizes b
twig_sizes-beside none b = omega arith
twig_sizes-beside (twig p t rest) b = let e = twig_sizes-beside rest b in omega arith

-- no entry, and one
pub no_cells : cells [] ≡ 0
unfolding nodes nodes_within
no_cells = refl

pub entry_cells : (e : Entry) → IsEntry e → cells (e ∷ []) ≡ suc (cells_in e.item)
-- where it lies doesn't matter here
entry_cells e is = let there = laid (length e.item) in size_is 0 (leaf e there.extents) (is, there.are) ∙ ap suc (weigh_ones one row_ones (length e.item) there.extents there.are)
