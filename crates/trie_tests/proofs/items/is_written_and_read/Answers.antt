use Rattle.std.proofs.Common.{◌≡◌, ℕ, ◌+◌, ◌<◌, List, [], ◌∷◌, length, Some, slice_get, subst, sym, refl, ◌∙◌, arith}
use Rattle.packed_node.specs.declared.Cell.{Cell}
use Rattle.chunk_cells.specs.declared.plain.PlainCells.{PlainCells}
use Rattle.chunk_cells.specs.Laying.{extents_in}
use Rattle.trie_model.specs.Extents.{HasItem, IsRow, content_cells, item_cell}
use Rattle.trie_tests.proofs.BlankLaws.{lone_cell, lone_item, lone_beside, small}
use Rattle.trie_tests.proofs.items.is_written_and_read.Goals as goal

-- the item
abbrev octets : List ℕ
octets = 2 ∷ 110 ∷ 115 ∷ 7 ∷ 101 ∷ 120 ∷ 97 ∷ 109 ∷ 112 ∷ 108 ∷ 101 ∷ 0 ∷ 0 ∷ 1 ∷ 0 ∷ 1 ∷ 0 ∷ 0 ∷ 1 ∷ 44 ∷ 0 ∷ 1 ∷ 0 ∷ 4 ∷ 192 ∷ 0 ∷ 2 ∷ 1 ∷ []

abbrev has : PlainCells → ℕ → Cell → Type 0
has s q d = slice_get s.cells.items q ≡ Some d

-- a cell that was there is there still
stays : (old new : PlainCells) (r : ℕ) (x : Cell) → new ≡ old → has old r x → (y : Cell) × has new r y
stays old new r x same there = (x, subst (λ (s : PlainCells). has s r x) (sym same) there)

in_row : IsRow 1030 (content_cells 28)
in_row = record { inside = omega arith; together = omega arith }

pub read_item-len-requires-clause-there : goal.read_item-len-requires-clause-there
read_item-len-requires-clause-there c = (
  octets,
  record { some = omega arith; short = omega arith; octets = small octets refl },
  lone_item (has c.write_item.new.cells) 28 1030 (extents_in c.lone.result) octets c.lone.ensures.there (omega arith) in_row refl c.write_item.ensures.lies,
)

pub read_front-front_len-requires : goal.read_front-front_len-requires
read_front-front_len-requires c = record {
  there =
      let item = lone_item (has c.write_item.new.cells) 28 1030 (extents_in c.lone.result) octets c.lone.ensures.there (omega arith) in_row refl c.write_item.ensures.lies in
      (octets, subst (λ (s : PlainCells). HasItem (has s) 1030 28 octets) (sym c.read_item-len.ensures.same) item);
}

pub cell-first-requires : goal.cell-first-requires
cell-first-requires c = record {
  there = stays c.write_item.new.cells c.read_front-front_len.new.cells 1030 (item_cell octets 0) (c.read_front-front_len.ensures.same ∙ c.read_item-len.ensures.same)
      (lone_cell (has c.write_item.new.cells) 1030 (extents_in c.lone.result) octets c.lone.ensures.there c.write_item.ensures.lies 0 (omega arith));
}

pub cell-second-requires : goal.cell-second-requires
cell-second-requires c = record {
  there = stays c.write_item.new.cells c.cell-first.new.self 1031 (item_cell octets 1) (c.cell-first.ensures.same ∙ c.read_front-front_len.ensures.same ∙ c.read_item-len.ensures.same)
      (lone_cell (has c.write_item.new.cells) 1030 (extents_in c.lone.result) octets c.lone.ensures.there c.write_item.ensures.lies 1 (omega arith));
}

pub cell-third-requires : goal.cell-third-requires
cell-third-requires c = record {
  there = stays c.write_item.new.cells c.cell-second.new.self 1032 c.args.after (c.cell-second.ensures.same ∙ c.cell-first.ensures.same ∙ c.read_front-front_len.ensures.same ∙ c.read_item-len.ensures.same)
      (c.write_item.ensures.others 1032 c.args.after (lone_beside 1032 28 1030 (extents_in c.lone.result) c.lone.ensures.there (λ k l e. omega arith)) c.put.ensures.written);
}
