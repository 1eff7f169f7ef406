use Rattle.std.proofs.Common.{◌≡◌, ◌+◌, ◌-◌, ◌*◌, inl, inr, sym, ap, subst, ◌∙◌, arith, rules}
use Rattle.std.proofs.lemmas.Bool.{cases_lt}
use Rattle.packed_node.specs.declared.Cell.{Cell}
use Rattle.trie_model.specs.Extents.{item_cell}
use Rattle.chunk_cells.proofs.reading.read_last.Goals as goal

pub read_cells-requires : goal.read_cells-requires
read_cells-requires g c = record {
  room = search rules;
  inside = search rules;
  there = λ k l. c.requires.there k (let e = c.content_cells_for-count.ensures in omega arith);
}

pub read_cells-requires-2 : goal.read_cells-requires-2
read_cells-requires-2 g c = record {
  room = search rules;
  inside = search rules;
  there = λ k l. c.requires.there k (let e = c.content_cells_for-count.ensures in omega arith);
}

-- an octet of the cells before the last one, and of that one
pub returns-clause-octets : goal.returns-clause-octets
returns-clause-octets g c item octets lies i l = elim (cases_lt i (16 * (c.content_cells_for-count.result - 1))) [
  | inl before ↦ c.put_front.ensures.before i before ∙ c.read_cells-2.ensures.octets item octets (λ k m. lies k (let e = c.content_cells_for-count.ensures in omega arith)) i before
  | inr last ↦ c.put_front.ensures.octets item octets (ap (λ (x : Cell). x.big) here) (ap (λ (x : Cell). x.small) here) i last (let a = c.read_cells-2.auto.out in let r = c.requires.room in omega arith)
]
  where
    here : c.cell-cell.result ≡ item_cell item (c.content_cells_for-count.result - 1)
    here =
        c.cell-cell.ensures.value (item_cell item (c.content_cells_for-count.result - 1))
        (subst (λ s. g.C.CellRead.has s (c.args.at + (c.content_cells_for-count.result - 1)) (item_cell item (c.content_cells_for-count.result - 1))) (sym c.read_cells-2.ensures.same)
        (lies (c.content_cells_for-count.result - 1) (let e = c.content_cells_for-count.ensures in omega arith)))

pub returns-then-count-out-clause-octets : goal.returns-then-count-out-clause-octets
returns-then-count-out-clause-octets g c item octets lies i l = c.read_cells.ensures.octets item octets (λ k m. lies k (let e = c.content_cells_for-count.ensures in omega arith)) i (let e = c.content_cells_for-count.ensures in omega arith)
