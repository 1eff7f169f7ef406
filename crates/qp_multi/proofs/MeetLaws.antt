-- How many chunks a root meets: at most as many as it has cells less branches.
use Rattle.std.proofs.Common.{◌≡◌, ℕ, zero, suc, ◌+◌, ◌-◌, ◌*◌, ◌/◌, ◌%◌, ◌<◌, ◌≤◌, ◌==◌, Bool, true, false, not, cond, if◌then◌else◌, List, [], ◌∷◌, length, slice_index_or, arith, refl, ◌∙◌, ap, subst, inl, inr}
use Rattle.std.specs.Prelude.{count_by}
use Rattle.std.proofs.lemmas.Bool.{cases_eq, cases_lt}
use Rattle.std.proofs.lemmas.Bool.Decides.{nat_tests}
use Rattle.trie_model.specs.Extents.{Extents, AreExtents, content_cells, linked_cells, row, weigh_extents}
use Rattle.trie_model.specs.Extents.Extents.{last, linked}
use Rattle.trie_model.specs.Keys.{at}
use Rattle.trie_model.specs.Trees.{Tree, Twigs, IsTree, AreTwigs, count}
use Rattle.trie_model.specs.Trees.Tree.{leaf, branch}
use Rattle.trie_model.specs.Trees.Twigs.{none, twig}
use Rattle.trie_model.specs.Reach.{in_chunk, weigh_tree, weigh}
use Rattle.trie_model.proofs.BitmapLaws.{few}
use Rattle.trie_model.proofs.ExtentLaws.{linked_is}
use Rattle.trie_model.proofs.CountLaws.{under, weigh_is}
use Rattle.trie_model.proofs.SplitLaws.{rising_of}
use Rattle.chunk_usage.proofs.RowLemmas.{row_there}
use Rattle.trie_write.specs.Paths.{twigs_on_path, twigs_past}
use Rattle.trie_space.specs.Weights.{at_place}
use Rattle.trie_model.proofs.SizeLaws.{one, row_ones}
use Rattle.trie_space.proofs.WeightLaws.{in_row, row_meets, row_misses}
use Rattle.qp_multi.proofs.CountedLaws.{row_le, here_in}
use Rattle.qp_multi.proofs.OpenLaws.{clear, clear_is}

-- what the first cells weigh, of each extent of an item, and of each branch's row of twigs
abbrev pub extent_firsts : (ℕ → ℕ) → Extents → ℕ
extent_firsts w (last r) = w r
extent_firsts w (linked r x) = w r + extent_firsts w x

abbrev mutual
  pub firsts : (ℕ → ℕ) → Tree → ℕ
  firsts w (leaf e x) = extent_firsts w x
  firsts w (branch o r below) = w r + firsts_in w below

  pub firsts_in : (ℕ → ℕ) → Twigs → ℕ
  firsts_in w none = 0
  firsts_in w (twig p t rest) = firsts w t + firsts_in w rest

abbrev mutual
  pub branches : Tree → ℕ
  branches (leaf e x) = 0
  branches (branch o r below) = suc (branches_in below)

  pub branches_in : Twigs → ℕ
  branches_in none = 0
  branches_in (twig p t rest) = branches t + branches_in rest

-- a row with a cell in the chunk has its first one there

row_first : (k r n : ℕ) → r % 1024 + n ≤ 1024 → 0 < row (in_chunk k) r n → ◌≡◌ {A = ℕ} (in_chunk k r) 1
row_first k r n together some = elim (cases_eq k (r / 1024)) [
  | inl e ↦ ap (λ j. in_chunk j r) e ∙ here_in r
  | inr ne ↦ absurd (let z = row_there r n together k ne in omega arith)
]

extent_met : (k n : ℕ) (x : Extents) → AreExtents n x → 0 < weigh_extents (in_chunk k) n x → 1 ≤ extent_firsts (in_chunk k) x
extent_met k n (last r) are some = let a = row_first k r (content_cells n) are.1.together some in omega arith
extent_met k n (linked r x) are some = elim (cases_lt 0 (row (in_chunk k) r linked_cells)) [
  | inl here ↦ (let a = row_first k r linked_cells are.1.together here in omega arith)
  | inr gone ↦ (let a = extent_met k (n - 4080) x are.2 (omega arith) in omega arith)
]

mutual
  pub met_first : (k low : ℕ) (t : Tree) → IsTree low t → 0 < weigh_tree (in_chunk k) t → 1 ≤ firsts (in_chunk k) t
  met_first k low (leaf e x) is some = extent_met k (length e.item) x is.1 some
  met_first k low (branch o r below) is some =
      let parts = weigh_is (in_chunk k) r below in
      elim (cases_lt 0 (row (in_chunk k) r (count below))) [
        | inl here ↦ (let a = row_first k r (count below) is.2.together here in omega arith)
        | inr gone ↦ (let a = met_in k o 0 below is.5 (omega arith) in omega arith)
      ]

  met_in : (k o low : ℕ) (ts : Twigs) → AreTwigs o low ts → 0 < under (in_chunk k) ts → 1 ≤ firsts_in (in_chunk k) ts
  met_in k o low none is some = absurd (omega arith)
  met_in k o low (twig p t rest) is some = elim (cases_lt 0 (weigh_tree (in_chunk k) t)) [
    | inl here ↦ (let a = met_first k (suc o) t is.3 here in omega arith)
    | inr gone ↦ (let a = met_in k o (suc p) rest is.4 (omega arith) in omega arith)
  ]

-- over all chunks

pub row_add : (v w : ℕ → ℕ) (r n : ℕ) → row (λ k. v k + w k) r n ≡ row v r n + row w r n
row_add v w r zero = refl
row_add v w r (suc n) = let a = row_add v w (suc r) n in omega arith

one_place : (q r n : ℕ) → row (at_place q) r n ≤ 1
one_place q r n = elim (in_row q r n) [
  | inl i ↦ (let a = row_meets q r n i.0 i.1 i.2 in omega arith)
  | inr out ↦ (let a = row_misses q r n out in omega arith)
]

pub equal_place : (q k : ℕ) → (if q == k then 1 else 0) ≤ at_place q k
equal_place q k = elim (cases_eq q k) [
  | inl e ↦ grind (arith, nat_tests)
  | inr ne ↦ grind (arith, nat_tests)
]

-- a number is one of those in a row at most once
pub equal_once : (q r n : ℕ) → row (λ k. if q == k then 1 else 0) r n ≤ 1
equal_once q r n = let a = row_le (λ k. if q == k then 1 else 0) (at_place q) (equal_place q) r n in let b = one_place q r n in omega arith

extents_sum : (n : ℕ) (x : Extents) → row (λ k. extent_firsts (in_chunk k) x) 0 n ≤ extent_firsts one x
extents_sum n (last r) = equal_once (r / 1024) 0 n
extents_sum n (linked r x) =
    let a = row_add (λ k. in_chunk k r) (λ k. extent_firsts (in_chunk k) x) 0 n in
    let b = equal_once (r / 1024) 0 n in
    let c = extents_sum n x in omega arith

mutual
  pub firsts_sum : (n : ℕ) (t : Tree) → row (λ k. firsts (in_chunk k) t) 0 n ≤ firsts one t
  firsts_sum n (leaf e x) = extents_sum n x
  firsts_sum n (branch o r below) =
      let a = row_add (λ k. in_chunk k r) (λ k. firsts_in (in_chunk k) below) 0 n in
      let b = equal_once (r / 1024) 0 n in
      let c = firsts_in_sum n below in omega arith

  firsts_in_sum : (n : ℕ) (ts : Twigs) → row (λ k. firsts_in (in_chunk k) ts) 0 n ≤ firsts_in one ts
  firsts_in_sum n none = zeros 0 n
    where
      zeros : (r n : ℕ) → row (λ k. 0) r n ≤ 0
      zeros r zero = omega arith
      zeros r (suc n) = let a = zeros (suc r) n in omega arith
  firsts_in_sum n (twig p t rest) =
      let a = row_add (λ k. firsts (in_chunk k) t) (λ k. firsts_in (in_chunk k) rest) 0 n in
      let b = firsts_sum n t in
      let c = firsts_in_sum n rest in omega arith

extents_few : (n : ℕ) (x : Extents) → 0 < n → AreExtents n x → extent_firsts one x ≤ weigh_extents one n x
extents_few n (last r) some are = let a = row_ones r (content_cells n) in omega arith
extents_few n (linked r x) some are =
    let long = are.0 in
    let a = row_ones r linked_cells in
    let b = linked_is in
    let c = extents_few (n - 4080) x (omega arith) are.2 in omega arith

mutual
  pub firsts_few : (low : ℕ) (t : Tree) → IsTree low t → firsts one t + branches t ≤ weigh_tree one t
  firsts_few low (leaf e x) is = let a = extents_few (length e.item) x is.0.item.some is.1 in omega arith
  firsts_few low (branch o r below) is = let a = firsts_in_few o 0 r below is.5 in let two = is.3 in omega arith

  firsts_in_few : (o low r : ℕ) (ts : Twigs) → AreTwigs o low ts → firsts_in one ts + branches_in ts + count ts ≤ weigh one r ts
  firsts_in_few o low r none is = omega arith
  firsts_in_few o low r (twig p t rest) is =
      let a = firsts_few (suc o) t is.3 in
      let b = firsts_in_few o (suc p) (suc r) rest is.4 in omega arith

-- a branch has at most 47 twigs

either_few : (b : Bool) (m n i j : ℕ) → m ≤ 47 * i → n ≤ 47 * j → (if b then m else n) ≤ 47 * (i + j)
either_few true m n i j h g = omega arith
either_few false m n i j h g = omega arith

mutual
  pub path_few : (key : List ℕ) (low : ℕ) (t : Tree) → IsTree low t → twigs_on_path key t ≤ 47 * branches t
  path_few key low (leaf e x) is = omega arith
  path_few key low (branch o r below) is =
      let a = few 0 47 below (rising_of o 0 below (omega arith) is.5) in
      let b = past_few key (at key o) o 0 below is.5 in omega arith

  past_few : (key : List ℕ) (position o low : ℕ) (ts : Twigs) → AreTwigs o low ts → twigs_past key position ts ≤ 47 * branches_in ts
  past_few key position o low none is = omega arith
  past_few key position o low (twig p t rest) is = either_few (p == position) _ _ (branches t) (branches_in rest) (path_few key (suc o) t is.3) (past_few key position o (suc p) rest is.4)

-- flags that are set, where each has a number above 0
set_some : (flags : List Bool) (w : ℕ → ℕ) (r : ℕ) → ((k : ℕ) → slice_index_or flags k false ≡ true → 1 ≤ w (r + k)) → length flags ≤ clear flags + row w r (length flags)
set_some [] w r h = omega arith
set_some (b ∷ flags) w r h =
    go b (h 0) (set_some flags w (suc r) (λ k t. let e : r + suc k ≡ suc r + k = omega arith in subst (λ (i : ℕ). 1 ≤ w i) e (h (suc k) t)))
  where
    go : (b : Bool) → (b ≡ true → 1 ≤ w (r + 0)) → length flags ≤ clear flags + row w (suc r) (length flags) → suc (length flags) ≤ cond (not b) (1 + clear flags) (clear flags) + (w r + row w (suc r) (length flags))
    go true here rest = let e : r + 0 ≡ r = omega arith in let c = subst (λ (i : ℕ). 1 ≤ w i) e (here refl) in omega arith
    go false here rest = omega arith

pub set_few : (flags : List Bool) (w : ℕ → ℕ) → ((k : ℕ) → slice_index_or flags k false ≡ true → 1 ≤ w k) → length flags ≤ count_by not flags + row w 0 (length flags)
set_few flags w h = let a = set_some flags w 0 (λ k t. let e : k ≡ 0 + k = omega arith in subst (λ (i : ℕ). 1 ≤ w i) e (h k t)) in let b = clear_is flags in omega arith
