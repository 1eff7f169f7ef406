use Rattle.std.proofs.Common.{inl, inr, [], arith, sym, ◌∙◌, subst}
use Rattle.std.proofs.lemmas.Bool.{true≢false}
use Rattle.trie_space.specs.Ways.{plug}
use Rattle.trie_space.proofs.SpaceLaws.{ok_map, err_map}
use Rattle.evacuate.specs.Evacuations.{HasSparse}
use Rattle.evacuate.specs.Fillings.{Fewer}
use Rattle.evacuate.specs.Chains.{GoesOn}
use Rattle.evacuate.specs.Sparse.{SparseExtents, LiesSparse}
use Rattle.evacuate.proofs.BehindLaws.{begins_at, fewer_then, lone_sparse}
use Rattle.evacuate.proofs.DescentLaws.{by_err, stood_same}
use Rattle.evacuate.proofs.MovingLaws.{cells_then}
use Rattle.evacuate.proofs.SparseLaws.{lies_left, sparse_behind}
use Rattle.evacuate.proofs.moves.move_item.Goals as goal

pub returns-in_err-to-clause-rearranged : goal.returns-in_err-to-clause-rearranged
returns-in_err-to-clause-rearranged g c = let stays = c.in_err-to.ensures.unmoved in record { stood = λ r es way t h is. (plug way t, stood_same stays.same stays.unchanged h.stood); cells = c.in_err-to.ensures.cells }

pub returns-in_err-to-clause-left : goal.returns-in_err-to-clause-left
returns-in_err-to-clause-left g c = by_err c.from_residual.result (λ due. subst HasSparse (sym c.in_err-to.ensures.unmoved.unchanged) (lies_left due.hung.hung due.sparse))

pub move_behind-requires : goal.move_behind-requires
move_behind-requires g c =
    let h = c.requires.hung in
    let b = begins_at (c.in_ok-to.ensures.lies.hung h.r h.es h.way h.t h.hung h.is) h.is (omega arith) in
    record {
      goes = record { r = h.r; es = h.es; way = h.way; e = b.e; front = []; rest = b.rest; goes = b.goes };
      writable = c.in_ok-to.ensures.lies.writable (omega arith);
      ready = c.in_ok-to.ensures.cells.ready;
    }

pub returns-then-leaf-gt-LAST_OCTETS-clause-rearranged : goal.returns-then-leaf-gt-LAST_OCTETS-clause-rearranged
returns-then-leaf-gt-LAST_OCTETS-clause-rearranged g c = record {
  stood = λ r es way t h is.
      let b = begins_at (c.in_ok-to.ensures.lies.hung r es way t h is) is (omega arith) in
      c.move_behind.ensures.rearranged.stood r es way b.e [] b.rest b.goes;
  cells = cells_then c.in_ok-to.ensures.cells c.move_behind.ensures.rearranged.cells;
}

pub returns-then-leaf-gt-LAST_OCTETS-clause-less : goal.returns-then-leaf-gt-LAST_OCTETS-clause-less
returns-then-leaf-gt-LAST_OCTETS-clause-less g c = ok_map c.move_behind.result (λ u less due. elim c.in_ok-to.ensures.lies.if_due [
  | inl fewer ↦ fewer_then fewer c.in_ok-to.ensures.cells c.move_behind.ensures.rearranged.cells
  | inr stays ↦ (
      let h = due.hung in
      let b = begins_at (c.in_ok-to.ensures.lies.hung h.r h.es h.way h.t h.hung h.is) h.is (omega arith) in
      let on : GoesOn g.C.CellRead.has c.move_first.new.cells c.move_first.new.usage c.in_ok-to.to c.args.leaf.len = record { r = h.r; es = h.es; way = h.way; e = b.e; front = []; rest = b.rest; goes = b.goes } in
      let behind : SparseExtents c.args.usage.now b.rest = sparse_behind c.args.usage.now c.args.leaf.at b.rest stays.0 (subst (LiesSparse c.args.usage.now) b.is due.sparse) in
      subst (λ l. Fewer l c.move_behind.new.usage) stays.1 (less (record { on = on; sparse = subst (λ l. SparseExtents l b.rest) (sym stays.1) behind }))
      )
]) c.move_behind.ensures.less

pub returns-then-leaf-gt-LAST_OCTETS-clause-left : goal.returns-then-leaf-gt-LAST_OCTETS-clause-left
returns-then-leaf-gt-LAST_OCTETS-clause-left g c = err_map c.move_behind.result (λ full left due. left) c.move_behind.ensures.left

pub returns-clause-rearranged : goal.returns-clause-rearranged
returns-clause-rearranged g c = record { stood = λ r es way t h is. (_, (c.in_ok-to.ensures.lies.hung r es way t h is).stood); cells = c.in_ok-to.ensures.cells }

pub returns-clause-less : goal.returns-clause-less
returns-clause-less g c due = elim c.in_ok-to.ensures.lies.if_due [
  | inl fewer ↦ fewer
  | inr stays ↦ absurd (true≢false (sym (lone_sparse due.hung.hung due.hung.is (omega arith) due.sparse) ∙ stays.0))
]
