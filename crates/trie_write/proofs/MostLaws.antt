-- A trie of n names has n leaves and fewer branches, so at most 4,114 cells a name.
use Rattle.std.proofs.Common.{◌≡◌, ℕ, suc, ◌+◌, ◌*◌, ◌^◌, ◌≤◌, ◌<◌, List, [], ◌∷◌, length, sum_by, arith, ap}
use Rattle.std.proofs.lemmas.List.Sums.{sum_by-cons, sum_by-append}
use Rattle.trie_model.specs.Keys.{Entry, Rises}
use Rattle.trie_model.specs.Extents.{cells_in, content_cells, links}
use Rattle.trie_model.specs.Shape.{cells}
use Rattle.trie_model.specs.Trees.{Tree, Twigs, entries_of, entries, count, IsTree, AreTwigs}
use Rattle.trie_model.specs.Trees.Tree.{leaf, branch}
use Rattle.trie_model.specs.Trees.Twigs.{none, twig}
use Rattle.trie_model.proofs.ExtentLaws.{weigh_ones}
use Rattle.trie_model.proofs.SizeLaws.{one, size, twig_sizes, size_is, size_branch, row_ones, no_cells}
use Rattle.trie_write.specs.declared.item.Item.{Item}
use Rattle.trie_write.specs.Entries.{entry_of, entries_of_items}
use Rattle.trie_write.proofs.ItemLaws.{item_entry, outline_items}

-- a leaf, a branch and its item's cells for each
abbrev reckoned : Entry → ℕ
reckoned e = 2 + cells_in e.item

abbrev pub most : List Entry → ℕ
most es = sum_by reckoned es

pub most_step : (e : Entry) (es : List Entry) → most (e ∷ es) ≡ (2 + cells_in e.item) + most es
most_step e es = sum_by-cons reckoned e es

mutual
  few : (low : ℕ) (t : Tree) → IsTree low t → suc (size t) ≤ most (entries_of t)
  few low (leaf e x) h = let a = most_step e [] in let b = weigh_ones one row_ones (length e.item) x h.1 in omega arith
  few low (branch o w below) h = let a = size_branch o w below in let b = few_twigs o 0 below h.5 in let c = h.3 in omega arith

  few_twigs : (o low : ℕ) (ts : Twigs) → AreTwigs o low ts → twig_sizes ts + count ts ≤ most (entries ts)
  few_twigs o low none h = omega arith
  few_twigs o low (twig p t rest) h =
      let a = few (suc o) t h.3 in
      let b = few_twigs o (suc p) rest h.4 in
      let c = sum_by-append reckoned (entries_of t) (entries rest) in omega arith

pub at_most : (items : List Item) → Rises (entries_of_items items) → cells (entries_of_items items) ≤ most (entries_of_items items)
at_most [] rises = let n = no_cells in omega arith
at_most (x ∷ items) rises =
    let o = outline_items (x ∷ items) (omega arith) rises in
    let a = few 0 o.tree o.is_tree in
    let b = size_is 0 o.tree o.is_tree in
    let c = ap cells o.holds in
    let d = ap most o.holds in omega arith

most_few : (items : List Item) → most (entries_of_items items) ≤ 4114 * length items
most_few [] = omega arith
most_few (x ∷ items) =
    let short = (item_entry x).item.short in
    let cells : content_cells (length x.octets.items) + links (length x.octets.items) ≤ 4112 = omega arith in
    let a = most_step (entry_of x) (entries_of_items items) in
    let b = most_few items in omega arith

pub cells_few : (items : List Item) → Rises (entries_of_items items) → length items < 2 ^ 40 → cells (entries_of_items items) < 2 ^ 64
cells_few items rises few = let a = at_most items rises in let b = most_few items in omega arith
