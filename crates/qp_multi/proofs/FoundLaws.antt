-- What is found by the words of the table is what the trie reaches.
use Rattle.std.proofs.Common.{◌≡◌, ◌∙◌, ℕ, zero, suc, ◌+◌, ◌-◌, ◌*◌, ◌/◌, ◌%◌, ◌^◌, ◌<◌, ◌≤◌, ◌==◌, Bool, true, false, if◌then◌else◌, List, ◌∷◌, ◌++◌, length, drop, count_ones, slice_index, refl, ap, arith, eq-eqb}
use Rattle.std.proofs.lemmas.Nat.{mod-mul-add}
use Rattle.packed_node.specs.declared.Cell.{Cell}
use Rattle.pin_core.specs.Words.{cell_at}
use Rattle.trie_model.specs.Extents.{Extents, first_of, links, linked_cells, side_by_side, spots, AreExtents, ItemLies}
use Rattle.trie_model.specs.Extents.Extents.{last, linked}
use Rattle.trie_model.specs.Trees.{Tree, Twigs, IsTree, AreTwigs, count, bitmap_of}
use Rattle.trie_model.specs.Trees.Tree.{leaf, branch}
use Rattle.trie_model.specs.Trees.Twigs.{none, twig}
use Rattle.trie_model.specs.Memory.{top_cell, Beneath, Lie}
use Rattle.trie_model.specs.Reach.{reach_below, reach_twigs}
use Rattle.trie_model.proofs.BitmapLaws.{ones_of}
use Rattle.trie_model.proofs.SplitLaws.{rising_of}
use Rattle.trie_model.proofs.TopLaws.{is_node}
use Rattle.qp_multi.specs.Images.{nodes_from, octets_from, hangs_on, found_below}

-- a leaf's words, and a branch's

hung_leaf : (words : List ℕ) (below : ℕ → List ℕ) (len at : ℕ) → hangs_on words below (4 * len) at ≡ octets_from words (links len) len at
hung_leaf words below len at =
    let test : (4 * len % 4 == 0) ≡ true = eq-eqb (4 * len % 4) 0 (omega arith) in
    let quarter : 4 * len / 4 ≡ len = omega arith in
    ap (λ (b : Bool). if b then octets_from words (links (4 * len / 4)) (4 * len / 4) at else nodes_from below at (count_ones (4 * len / 4 % 2 ^ 47))) test
    ∙ ap (λ (n : ℕ). octets_from words (links n) n at) quarter

hung_branch : (words : List ℕ) (below : ℕ → List ℕ) (bitmap offset at : ℕ) → bitmap < 2 ^ 47 → hangs_on words below (1 + 4 * bitmap + 2 ^ 49 * offset) at ≡ nodes_from below at (count_ones bitmap)
hung_branch words below bitmap offset at small =
    let big = 1 + 4 * bitmap + 2 ^ 49 * offset in
    let rest : (1 + 4 * bitmap + 2 ^ 49 * offset) % 4 ≡ 1 = omega arith in
    let test : ((1 + 4 * bitmap + 2 ^ 49 * offset) % 4 == 0) ≡ false = ap (λ (n : ℕ). n == 0) rest in
    let quarter : (1 + 4 * bitmap + 2 ^ 49 * offset) / 4 ≡ offset * 2 ^ 47 + bitmap = omega arith in
    ap (λ (b : Bool). if b then octets_from words (links (big / 4)) (big / 4) at else nodes_from below at (count_ones (big / 4 % 2 ^ 47))) test
    ∙ ap (λ (n : ℕ). nodes_from below at (count_ones (n % 2 ^ 47))) quarter
    ∙ ap (λ (n : ℕ). nodes_from below at (count_ones n)) (mod-mul-add offset (2 ^ 47) bitmap small)

module _ (words : List ℕ) where
  -- the words of a cell
  pub record Says (r : ℕ) (c : Cell) : Type 0 where
    pub big : slice_index words (cell_at r) ≡ c.big
    pub small : slice_index words (cell_at r + 1) ≡ c.small

  read : (below : ℕ → List ℕ) (r : ℕ) (c : Cell) → Says r c → hangs_on words below (slice_index words (cell_at r)) (slice_index words (cell_at r + 1)) ≡ hangs_on words below c.big c.small
  read below r c s = ap (λ (big : ℕ). hangs_on words below big (slice_index words (cell_at r + 1))) s.big ∙ ap (hangs_on words below c.big) s.small

  -- an item's cells are found extent by extent
  octets_are : (n : ℕ) (x : Extents) (item : List ℕ) → AreExtents n x → ItemLies Says x item → octets_from words (links n) n (first_of x) ≡ spots n x
  octets_are n (last r) item are lies = let short = are.0 in let none : links n ≡ 0 = omega arith in ap (λ (more : ℕ). octets_from words more n r) none
  octets_are n (linked r x) item are lies =
      let long = are.0 in
      let one : links n ≡ suc (links (n - 4080)) = omega arith in
      ap (λ (more : ℕ). octets_from words more n r) one
      ∙ ap (λ (next : ℕ). side_by_side r linked_cells ++ octets_from words (links (n - 4080)) (n - 4080) next) lies.1.small
      ∙ ap (λ (behind : List ℕ). side_by_side r linked_cells ++ behind) (octets_are (n - 4080) x (drop 4080 item) are.2 lies.2)

  mutual
    unfolding found_below

    pub found_is : (depth low r : ℕ) (t : Tree) → IsTree low t → low ≤ 504 → 505 ≤ low + depth → Says r (top_cell t) → Beneath Says t → found_below depth words r ≡ reach_below t
    found_is zero low r t shape early deep top below = absurd (omega arith)
    found_is (suc depth) low r (leaf e x) shape early deep top below =
        read (found_below depth words) r (top_cell (leaf e x)) top
        ∙ hung_leaf words (found_below depth words) (length e.item) (first_of x)
        ∙ octets_are (length e.item) x e.item shape.1 below
    found_is (suc depth) low r (branch o first ts) shape early deep top below =
        let node = is_node low (branch o first ts) shape in
        let ones : count_ones (bitmap_of ts) ≡ count ts = ones_of 0 47 ts (rising_of o 0 ts (omega arith) shape.5) in
        read (found_below depth words) r (top_cell (branch o first ts)) top
        ∙ hung_branch words (found_below depth words) (bitmap_of ts) o first node.positions
        ∙ ap (nodes_from (found_below depth words) first) ones
        ∙ found_row depth o 0 first ts shape.5 (let a = shape.1 in omega arith) (let b = shape.0 in omega arith) below

    found_row : (depth o low r : ℕ) (ts : Twigs) → AreTwigs o low ts → o ≤ 503 → 505 ≤ suc o + depth → Lie Says r ts → nodes_from (found_below depth words) r (count ts) ≡ reach_twigs r ts
    found_row depth o low r none are early deep lie = refl
    found_row depth o low r (twig p t rest) are early deep lie =
        let here = found_is depth (suc o) r t are.3 (omega arith) deep lie.0 lie.1 in
        let more = found_row depth o (suc p) (suc r) rest are.4 early deep lie.2 in
        ap (λ (xs : List ℕ). r ∷ (xs ++ nodes_from (found_below depth words) (suc r) (count rest))) here
        ∙ ap (λ (xs : List ℕ). r ∷ (reach_below t ++ xs)) more
