use Rattle.std.proofs.Common.{◌≡◌, ℕ, ◌+◌, List, Contains, inl, inr, ◌∙◌, subst, arith}
use Rattle.std.proofs.lemmas.Bool.{cases_lt}
use Rattle.trie_model.specs.Extents.{item_cell}
use Rattle.chunk_cells.proofs.ItemLaws.{same_cell}
use Rattle.chunk_cells.proofs.writing.write_cells.Goals as goal

pub put-requires-clause-unkept : goal.put-requires-clause-unkept
put-requires-clause-unkept g c h =
    c.requires.unkept c.loop-k.k c.loop-k-test.true (subst (λ (qs : List ℕ). Contains qs (c.args.at + c.loop-k.k)) c.loop-k.invariant.kept h)

pub loop-k-preserved : goal.loop-k-preserved
loop-k-preserved g c = record {
  lies = λ i l. elim (cases_lt i c.loop-k.k) [
    | inl lt ↦ c.put.ensures.others (c.args.at + i) (item_cell c.args.item.now i) (λ e. omega arith) (c.loop-k.invariant.lies i lt)
    | inr ge ↦ (let e : c.loop-k.k ≡ i = omega arith in subst (λ (n : ℕ). g.C.CellRead.has c.put.new.self (c.args.at + n) (item_cell c.args.item.now n)) e here)
  ];
  others = λ q x other h. c.put.ensures.others q x (other c.loop-k.k c.loop-k-test.true) (c.loop-k.invariant.others q x other h);
  given = c.put.ensures.given ∙ c.loop-k.invariant.given;
  kept = c.put.ensures.kept ∙ c.loop-k.invariant.kept;
}
  where
    here : g.C.CellRead.has c.put.new.self (c.args.at + c.loop-k.k) (item_cell c.args.item.now c.loop-k.k)
    here = subst (g.C.CellRead.has c.put.new.self (c.args.at + c.loop-k.k)) (same_cell c.cell_of.result (item_cell c.args.item.now c.loop-k.k) c.cell_of.ensures.big c.cell_of.ensures.small) c.put.ensures.written
