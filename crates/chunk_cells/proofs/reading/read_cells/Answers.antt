use Rattle.std.proofs.Common.{◌≡◌, ℕ, ◌+◌, ◌-◌, ◌*◌, ◌<◌, ◌≤◌, ◌⊎◌, List, slice_index, inl, inr, sym, ap, ◌∙◌, subst, arith}
use Rattle.std.proofs.lemmas.Bool.{cases_lt}
use Rattle.packed_node.specs.declared.Cell.{Cell}
use Rattle.trie_model.specs.Keys.{AreOctets}
use Rattle.trie_model.specs.Extents.{item_cell}
use Rattle.chunk_cells.proofs.ItemLaws.{octet_there}
use Rattle.chunk_cells.proofs.reading.read_cells.Goals as goal

pub cell-cell-requires : goal.cell-cell-requires
cell-cell-requires g c = record {
  there = (let x = c.requires.there c.loop-k.k c.loop-k-test.true in (x.0, subst (λ s. g.C.CellRead.has s (c.args.at + c.loop-k.k) x.0) (sym c.loop-k.invariant.same) x.1));
}

pub loop-k-preserved : goal.loop-k-preserved
loop-k-preserved g c = record {
  same = c.cell-cell.ensures.same ∙ c.loop-k.invariant.same;
  read = λ item is lies i l. read item is lies i l (cases_lt i (16 * c.loop-k.k)) (cases_lt i (16 * c.loop-k.k + 8));
  rest = λ i l. c.put_word-in-loop-k.ensures.after i (omega arith) ∙ c.put_word.ensures.after i (omega arith) ∙ c.loop-k.invariant.rest i (omega arith);
}
  where
    value : (item : List ℕ) → ((k : ℕ) → k < c.args.count → g.C.CellRead.has c.args.cells.now (c.args.at + k) (item_cell item k)) → c.cell-cell.result ≡ item_cell item c.loop-k.k
    value item lies =
        c.cell-cell.ensures.value (item_cell item c.loop-k.k)
        (subst (λ s. g.C.CellRead.has s (c.args.at + c.loop-k.k) (item_cell item c.loop-k.k)) (sym c.loop-k.invariant.same)
        (lies c.loop-k.k c.loop-k-test.true))

    -- an octet of an earlier cell, of the cell's first word, and of its second
    read : (item : List ℕ) → AreOctets item → ((k : ℕ) → k < c.args.count → g.C.CellRead.has c.args.cells.now (c.args.at + k) (item_cell item k)) → (i : ℕ) → i < 16 * (c.loop-k.k + 1) →
        (i < 16 * c.loop-k.k) ⊎ (16 * c.loop-k.k ≤ i) → (i < 16 * c.loop-k.k + 8) ⊎ (16 * c.loop-k.k + 8 ≤ i) → slice_index c.put_word-in-loop-k.new.out i ≡ slice_index item i
    read item is lies i l (inl a) b = c.put_word-in-loop-k.ensures.before i (omega arith) ∙ c.put_word.ensures.before i a ∙ c.loop-k.invariant.read item is lies i a
    read item is lies i l (inr a) (inl b) =
        let e : 16 * c.loop-k.k + (i - 16 * c.loop-k.k) ≡ i = omega arith in
        c.put_word-in-loop-k.ensures.before i b ∙ ap (slice_index c.put_word.new.out) (sym e) ∙ c.put_word.ensures.written (i - 16 * c.loop-k.k) (omega arith)
        ∙ octet_there item c.cell-cell.result.big (16 * c.loop-k.k) i is (ap (λ (x : Cell). x.big) (value item lies)) a b
    read item is lies i l (inr a) (inr b) =
        let e : 16 * c.loop-k.k + 8 + (i - (16 * c.loop-k.k + 8)) ≡ i = omega arith in
        ap (slice_index c.put_word-in-loop-k.new.out) (sym e) ∙ c.put_word-in-loop-k.ensures.written (i - (16 * c.loop-k.k + 8)) (omega arith)
        ∙ octet_there item c.cell-cell.result.small (16 * c.loop-k.k + 8) i is (ap (λ (x : Cell). x.small) (value item lies)) b (omega arith)
