use Rattle.std.proofs.Common.{◌≡◌, ◌+◌, ◌*◌, inl, inr, refl, sym, ap, ◌∙◌, subst, arith, true≢false}
use Rattle.std.proofs.lemmas.Bool.{cases_lt}
use Rattle.packed_node.specs.declared.Cell.{Cell}
use Rattle.trie_model.specs.Extents.{item_cell}
use Rattle.trie_model.proofs.ExtentLaws.{front_lies}
use Rattle.chunk_cells.proofs.ItemLaws.{begins_at, at_beginning}
use Rattle.chunk_cells.proofs.front.begins_with.Goals as goal

pub cell-cell-requires : goal.cell-cell-requires
cell-cell-requires g c = record {
  there = (
      let x = c.requires.there in
      let front = front_lies (g.C.CellRead.has c.args.cells.now) c.args.leaf.at c.args.leaf.len x.0 x.1 c.loop-k.k (let e = c.content_cells_for-k-end.ensures in let t = c.loop-k-test.true in let f = c.if-octets-leaf.false in omega arith) (let e = c.content_cells_for-k-end.ensures in let t = c.loop-k-test.true in let f = c.requires.few in omega arith) in
      (item_cell x.0 c.loop-k.k, subst (λ s. g.C.CellRead.has s (c.args.leaf.at + c.loop-k.k) (item_cell x.0 c.loop-k.k)) (sym c.loop-k.invariant.same) front)
      );
}

pub returns-then-not-cell_says-clause-value : goal.returns-then-not-cell_says-clause-value
returns-then-not-cell_says-clause-value g c item is lies =
    let cell : c.cell-cell.result ≡ item_cell item c.loop-k.k = c.cell-cell.ensures.value (item_cell item c.loop-k.k) (subst (λ s. g.C.CellRead.has s (c.args.leaf.at + c.loop-k.k) (item_cell item c.loop-k.k)) (sym c.loop-k.invariant.same) (front_lies (g.C.CellRead.has c.args.cells.now) c.args.leaf.at c.args.leaf.len item lies c.loop-k.k (let e = c.content_cells_for-k-end.ensures in let t = c.loop-k-test.true in let f = c.if-octets-leaf.false in omega arith) (let e = c.content_cells_for-k-end.ensures in let t = c.loop-k-test.true in let f = c.requires.few in omega arith))) in
    let says = c.cell_says.ensures item is (ap (λ (x : Cell). x.big) cell) (ap (λ (x : Cell). x.small) cell) in (
      λ t. absurd (true≢false (sym t)),
      λ b. absurd (true≢false (sym (says.1 (λ i l m n. at_beginning item c.args.octets.now b.0 b.1 i n)) ∙ c.if-not-cell_says.true)),
    )

pub returns-clause-value : goal.returns-clause-value
returns-clause-value g c item is lies = (
  λ t. begins_at item c.args.octets.now (let z = lies.there.size in let f = c.if-octets-leaf.false in omega arith) (λ i l. c.loop-k.invariant.alike item is lies i (let e = c.content_cells_for-k-end.ensures in let t = c.loop-k-test.false in omega arith) l),
  λ b. refl,
)

pub loop-k-preserved : goal.loop-k-preserved
loop-k-preserved g c = record {
  same = c.cell-cell.ensures.same ∙ c.loop-k.invariant.same;
  alike = λ item is lies i l m.
      let cell : c.cell-cell.result ≡ item_cell item c.loop-k.k = c.cell-cell.ensures.value (item_cell item c.loop-k.k) (subst (λ s. g.C.CellRead.has s (c.args.leaf.at + c.loop-k.k) (item_cell item c.loop-k.k)) (sym c.loop-k.invariant.same) (front_lies (g.C.CellRead.has c.args.cells.now) c.args.leaf.at c.args.leaf.len item lies c.loop-k.k (let e = c.content_cells_for-k-end.ensures in let t = c.loop-k-test.true in let f = c.if-octets-leaf.false in omega arith) (let e = c.content_cells_for-k-end.ensures in let t = c.loop-k-test.true in let f = c.requires.few in omega arith))) in
      let says = c.cell_says.ensures item is (ap (λ (x : Cell). x.big) cell) (ap (λ (x : Cell). x.small) cell) in
      elim (cases_lt i (16 * c.loop-k.k)) [
        | inl before ↦ c.loop-k.invariant.alike item is lies i before m
        | inr after ↦ says.0 c.if-not-cell_says.false i after (omega arith) m
      ];
}
