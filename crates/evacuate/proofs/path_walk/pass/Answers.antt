use Rattle.std.proofs.Common.{◌≡◌, ◌+◌, ◌/◌, true, inl, inr, Fits-lit, arith, refl, ap, ℕ, Bool, List}
use Rattle.std.proofs.Math.Facts.{Fits-lt}
use Rattle.evacuate.specs.Fillings.{Fills, is_old}
use Rattle.evacuate.specs.Places.{first_of, width_of}
use Rattle.evacuate.proofs.FillingLaws.{sparse_old, settled_old, same_chunk_old}
use Rattle.evacuate.proofs.AlongLaws.{twigs_stay}
use Rattle.evacuate.proofs.MovingLaws.{cells_same}
use Rattle.evacuate.proofs.TreeLaws.{hung_cells, hung_tree, moved_row, used_writable}
use Rattle.evacuate.proofs.path_walk.pass.Goals as goal

pub overflow_add-result : goal.overflow_add-result
overflow_add-result g c =
    let x = hung_cells c.requires.can.hung.hung (ap first_of c.requires.can.hung.is) (ap width_of c.requires.can.hung.is) in
    let i = x.row.row.inside in let l = c.requires.may_pass.index in
    Fits-lt {n = 4194304} (omega arith) (Fits-lit tt)

pub returns-then-passage-clause-passed : goal.returns-then-passage-clause-passed
returns-then-passage-clause-passed g c =
    let can = c.requires.can.hung in
    let x = hung_cells can.hung (ap first_of can.is) (ap width_of can.is) in
    record {
      hung = λ r es way t h is. twigs_stay h is;
      writable = used_writable c.known.ensures c.requires.can.ready (x.in_use c.args.passage.descent.index c.requires.may_pass.index) (c.requires.may_pass.stays c.if-passage.true);
    }

pub returns-then-passage-clause-cells : goal.returns-then-passage-clause-cells
returns-then-passage-clause-cells g c = cells_same refl refl c.requires.can.ready

pub overflow_add-result-2 : goal.overflow_add-result-2
overflow_add-result-2 g c =
    let h = c.requires.can.hung in
    let r = moved_row h.t c.in_ok-to.to (hung_tree (c.in_ok-to.ensures.moved.hung h.r h.es h.way h.t h.hung h.is)) in
    let n = ap width_of h.is in
    let i = r.inside in let l = c.requires.may_pass.index in
    Fits-lt {n = 4194304} (omega arith) (Fits-lit tt)

pub returns-clause-passed : goal.returns-clause-passed
returns-clause-passed g c = record {
  hung = λ r es way t h is. record { to = c.in_ok-to.to; hung = c.in_ok-to.ensures.moved.hung r es way t h is; twig_is = refl };
  writable = c.in_ok-to.ensures.moved.writable c.args.passage.descent.index c.requires.may_pass.index;
}

pub returns-in_err-to-clause-cells : goal.returns-in_err-to-clause-cells
returns-in_err-to-clause-cells g c = let stays = c.in_err-to.ensures.unmoved in cells_same stays.same stays.unchanged c.requires.can.ready

pub returns-clause-cells : goal.returns-clause-cells
returns-clause-cells g c = record { moves = λ given fills. (c.in_ok-to.ensures.moved.paid given fills (old given fills)).moves; frame = c.in_ok-to.ensures.rest.frame; ready = c.in_ok-to.ensures.rest.ready }
  where
    twigs : ℕ
    twigs = c.args.passage.descent.branch.twigs

    old : (given : List Bool) → Fills given c.args.usage.now → is_old given twigs ≡ true
    old given fills = elim (c.requires.may_pass.due c.if-passage.false) [
      | inl sparse ↦ sparse_old given c.args.usage.now fills (twigs / 1024) sparse
      | inr settled ↦ (
          let x = hung_cells c.requires.can.hung.hung (ap first_of c.requires.can.hung.is) (ap width_of c.requires.can.hung.is) in
          let together = x.row.row.together in let l = c.requires.may_pass.index in
          same_chunk_old given twigs (twigs + c.args.passage.descent.index) (omega arith)
          (settled_old given c.args.usage.now fills c.known.ensures (twigs + c.args.passage.descent.index) (x.in_use c.args.passage.descent.index c.requires.may_pass.index) settled)
          )
    ]
