use Rattle.std.proofs.Common.{◌≡◌, ℕ, Bool, true, false, List, [], ◌∷◌, Some, slice_get, slice_set, drop, length-drop, subst, sym, refl, ap, ◌∙◌, arith}
use Rattle.packed_node.specs.declared.Cell.{Cell}
use Rattle.chunk_cells.specs.declared.plain.PlainCells.{PlainCells}
use Rattle.chunk_cells.specs.Chunks.{IsGiven}
use Rattle.chunk_cells.specs.Laying.{AreBlank}
use Rattle.trie_model.specs.Extents.{item_cell, link_cell}
use Rattle.trie_model.specs.Extents.Extents.{last, linked}
use Rattle.trie_tests.proofs.BlankLaws.{two_blank}
use Rattle.trie_tests.proofs.items.is_linked.Goals as goal

-- a cell that was there is there still
stays : (old new : PlainCells) (r : ℕ) (x : Cell) → new ≡ old → slice_get old.cells.items r ≡ Some x → (y : Cell) × (slice_get new.cells.items r ≡ Some y)
stays old new r x same there = (x, subst (λ (s : PlainCells). slice_get s.cells.items r ≡ Some x) (sym same) there)

pub write_item-requires-clause-blank : goal.write_item-requires-clause-blank
write_item-requires-clause-blank c =
    let all : c.give-2.new.self.given.items ≡ false ∷ true ∷ true ∷ [] = c.give-2.ensures.given ∙ ap (λ (g : List Bool). slice_set g 2 true) (c.give.ensures.given ∙ ap (λ (g : List Bool). slice_set g 1 true) c.requires.given) in
    let first : IsGiven c.give-2.new.self.given.items 1 = subst (λ (g : List Bool). IsGiven g 1) (sym all) refl in
    let second : IsGiven c.give-2.new.self.given.items 2 = subst (λ (g : List Bool). IsGiven g 2) (sym all) refl in
    subst (λ (n : ℕ). AreBlank [] c.give-2.new.self.given.items n (linked 1030 (last 2048))) (sym c.requires.size) (two_blank c.give-2.new.self.given.items first second)

pub cell-link-requires : goal.cell-link-requires
cell-link-requires c = record { there = (link_cell 2048, c.write_item.ensures.lies.1) }

pub cell-last-requires : goal.cell-last-requires
cell-last-requires c = record {
  there = stays c.write_item.new.cells c.cell-link.new.self 2049 (item_cell (drop 4080 c.args.item.now) 1) c.cell-link.ensures.same
      (c.write_item.ensures.lies.2 1 (let s = c.requires.size in let n = length-drop 4080 c.args.item.now in omega arith));
}
