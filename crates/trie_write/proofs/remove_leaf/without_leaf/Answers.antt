use Rattle.std.proofs.Common.{ℕ, ◌+◌, ◌-◌, ◌^◌, arith, sym, ◌∙◌, ap, subst}
use Rattle.std.specs.Int.{bit_at}
use Rattle.chunk_usage.specs.Rooms.{Handed}
use Rattle.trie_write.proofs.CopyLaws.{cell_there, cell_used, old_lies}
use Rattle.trie_write.proofs.WithoutLaws.{last_n, last_known, gone_item, leaf_top, key_position, key_bit, fewer_branch, dropped, collapsed, same_without, the_span, taken_twigs, none_taken}
use Rattle.trie_space.proofs.SpaceLaws.{err_on, frame_refl, frame_same, ready_put, refused_same}
use Rattle.trie_write.proofs.remove_leaf.without_leaf.Goals as goal

pub item_below-old_item-requires : goal.item_below-old_item-requires
item_below-old_item-requires g c = let x = c.requires.last.last in (_, _, leaf_top x)

pub cell-other-requires : goal.cell-other-requires
cell-other-requires g c = let x = c.requires.last.last in let h = cell_there x.asks x.descent.through (1 - c.args.descent.index) (let n = c.twig_count.ensures in let e = c.if-old_twigs-eq2.true in omega arith) in
    record { there = (h.0, subst (λ s. g.C.CellRead.has s (c.args.descent.branch.twigs + (1 - c.args.descent.index)) h.0) (sym c.item_below-old_item.ensures.same) h.1) }

pub overflow_sub-descent : goal.overflow_sub-descent
overflow_sub-descent g c = let x = c.requires.last.last in let i = x.descent.index_is in let m = last_n x in let n = c.twig_count.ensures in let e = c.if-old_twigs-eq2.true in omega arith

pub returns-then-old_twigs-eq2-clause-takes : goal.returns-then-old_twigs-eq2-clause-takes
returns-then-old_twigs-eq2-clause-takes g c = record {
  without = λ lower e first x.
      let n = c.twig_count.ensures in let gone = c.leaf_gone.ensures in
      same_without (c.cell-other.ensures.same ∙ c.item_below-old_item.ensures.same) (collapsed x (sym n ∙ c.if-old_twigs-eq2.true) (λ d h. gone.cell ∙ c.cell-other.ensures.value d (subst (λ s. g.C.CellRead.has s (c.args.descent.branch.twigs + (1 - c.args.descent.index)) d) (sym c.item_below-old_item.ensures.same) h)) gone.new_twigs gone.new_item (gone.old_twigs ∙ ap (the_span c.args.descent.branch.twigs) n) (gone_item x c.item_below-old_item.ensures.len c.item_below-old_item.ensures.there gone.old_item));
  taken = none_taken c.leaf_gone.ensures.new_twigs c.leaf_gone.ensures.new_item;
}

pub returns-then-old_twigs-eq2-clause-adds : goal.returns-then-old_twigs-eq2-clause-adds
returns-then-old_twigs-eq2-clause-adds g c =
    let same = c.cell-other.ensures.same ∙ c.item_below-old_item.ensures.same in
    record { frame = frame_same same (frame_refl _ _); ready = ready_put c.requires.ready (ap g.C.CellWrite.given same) (ap g.C.CellWrite.kept same) }

pub returns-then-old_twigs-eq2-clause-consumes : goal.returns-then-old_twigs-eq2-clause-consumes
returns-then-old_twigs-eq2-clause-consumes g c = let n = c.twig_count.ensures in let e = c.if-old_twigs-eq2.true in omega arith

pub copy_apart-requires : goal.copy_apart-requires
copy_apart-requires g c =
    let x = c.requires.last.last in let m = last_n x in let n = c.twig_count.ensures in
    record {
      index = (let i = x.descent.index_is in omega arith);
      some = (let k = (last_known x).two in omega arith);
      few = (let k = (last_known x).few in omega arith);
      inside = (let r = (old_lies x.asks x.descent.through).inside in omega arith);
      there = λ i l. let h = cell_there x.asks x.descent.through i (omega arith) in
          (h.0, subst (λ s. g.C.CellRead.has s (c.args.descent.branch.twigs + i) h.0) (sym c.item_below-old_item.ensures.same) h.1);
      in_use = λ i l. cell_used x.asks x.descent.through i (omega arith);
      ready = ready_put c.requires.ready (ap g.C.CellWrite.given c.item_below-old_item.ensures.same) (ap g.C.CellWrite.kept c.item_below-old_item.ensures.same);
    }

pub returns-in_err-to-clause-lacks : goal.returns-in_err-to-clause-lacks
returns-in_err-to-clause-lacks g c = err_on _ c.from_residual.result c.from_residual.ensures.1 (record {
  refused = refused_same c.item_below-old_item.ensures.same c.in_err-to.ensures.lacks.refused;
  asked = (let n = c.twig_count.ensures in let e = c.in_err-to.ensures.lacks.asked in omega arith);
})

pub returns-in_err-to-clause-adds : goal.returns-in_err-to-clause-adds
returns-in_err-to-clause-adds g c = record { frame = frame_same c.item_below-old_item.ensures.same c.copy_apart.ensures.takes.frame; ready = c.copy_apart.ensures.takes.ready }

pub returns-in_err-to-clause-consumes : goal.returns-in_err-to-clause-consumes
returns-in_err-to-clause-consumes g c = let x = c.requires.last.last in let m = last_n x in let n = c.twig_count.ensures in let k = (last_known x).two in let s = c.copy_apart.ensures.takes.consumes in omega arith

pub without-requires-clause-position : goal.without-requires-clause-position
without-requires-clause-position g c = let x = c.requires.last.last in let p = key_position x in let i = (last_known x).inside in let e = c.at.ensures in omega arith

pub without-requires-clause-present : goal.without-requires-clause-present
without-requires-clause-present g c = ap (λ (q : ℕ). bit_at c.args.descent.branch.bitmap q) c.at.ensures ∙ key_bit c.requires.last.last

pub pack-cell-requires : goal.pack-cell-requires
pack-cell-requires g c =
    let x = c.requires.last.last in let n = c.twig_count.ensures in
    fewer_branch x c.without.result (frame_same c.item_below-old_item.ensures.same c.in_ok-to.ensures.takes.frame) (subst (Handed (g.U.Space.account c.args.usage.now) (g.U.Space.account c.copy_apart.new.usage) c.in_ok-to.to) (omega arith) c.in_ok-to.ensures.copied.handed)
    (let m = last_n x in let k = (last_known x).two in let d = c.if-old_twigs-eq2.false in omega arith) (ap (λ (q : ℕ). c.without.result + 2 ^ q) (sym c.at.ensures) ∙ c.without.ensures)

pub overflow_sub-n : goal.overflow_sub-n
overflow_sub-n g c = let x = c.requires.last.last in let m = last_n x in let n = c.twig_count.ensures in let k = (last_known x).two in omega arith

pub returns-clause-takes : goal.returns-clause-takes
returns-clause-takes g c = record {
  without = λ lower e first x.
      let n = c.twig_count.ensures in let gone = c.leaf_gone-2.ensures in
      dropped x c.without.result (frame_same c.item_below-old_item.ensures.same c.in_ok-to.ensures.takes.frame) (subst (Handed (g.U.Space.account c.args.usage.now) (g.U.Space.account c.copy_apart.new.usage) c.in_ok-to.to) (omega arith) c.in_ok-to.ensures.copied.handed)
      (let m = last_n x in let k = (last_known x).two in let d = c.if-old_twigs-eq2.false in omega arith) (ap (λ (q : ℕ). c.without.result + 2 ^ q) (sym c.at.ensures) ∙ c.without.ensures)
      (λ i d l h. c.in_ok-to.ensures.copied.before i d l (subst (λ s. g.C.CellRead.has s (c.args.descent.branch.twigs + i) d) (sym c.item_below-old_item.ensures.same) h)) (λ i d l h. c.in_ok-to.ensures.copied.after i d (omega arith) (subst (λ s. g.C.CellRead.has s (c.args.descent.branch.twigs + (c.args.descent.index + 1 + i)) d) (sym c.item_below-old_item.ensures.same) h)) (gone.cell ∙ c.pack-cell.ensures) (gone.new_twigs ∙ ap (λ (m : ℕ). the_span c.in_ok-to.to (m - 1)) n) gone.new_item (gone.old_twigs ∙ ap (the_span c.args.descent.branch.twigs) n)
      (gone_item x c.item_below-old_item.ensures.len c.item_below-old_item.ensures.there gone.old_item);
  taken = taken_twigs c.in_ok-to.to (c.twig_count.result - 1) (subst (Handed (g.U.Space.account c.args.usage.now) (g.U.Space.account c.copy_apart.new.usage) c.in_ok-to.to) (omega arith) c.in_ok-to.ensures.copied.handed) c.in_ok-to.ensures.takes.frame.grows.stays c.leaf_gone-2.ensures.new_twigs c.leaf_gone-2.ensures.new_item;
}

pub returns-clause-adds : goal.returns-clause-adds
returns-clause-adds g c = record { frame = frame_same c.item_below-old_item.ensures.same c.in_ok-to.ensures.takes.frame; ready = c.in_ok-to.ensures.takes.ready }

pub returns-clause-consumes : goal.returns-clause-consumes
returns-clause-consumes g c = let x = c.requires.last.last in let m = last_n x in let n = c.twig_count.ensures in let k = (last_known x).two in let s = c.copy_apart.ensures.takes.consumes in omega arith
