use Rattle.std.proofs.Common.{inr, Fits-lit, arith, refl, sym, ◌∙◌, ap, subst}
use Rattle.std.proofs.Math.Facts.{Fits-lt}
use Rattle.chunk_usage.specs.Rooms.{reserve_account_of}
use Rattle.trie_space.specs.Spaces.{IsWritable}
use Rattle.trie_space.specs.Ways.{plug}
use Rattle.evacuate.specs.Evacuations.{HasSparse}
use Rattle.evacuate.specs.Places.{first_of, width_of}
use Rattle.evacuate.specs.Stacks.{Underway}
use Rattle.evacuate.proofs.MovingLaws.{cells_same, cells_then}
use Rattle.evacuate.proofs.DescentLaws.{begins, by_err, hung_there, hung_says, hung_read, underway_first, underway_hung, branch_node_is, early, index_inside, further_there, further_says, underway_further, underway_left, fewer_places, reached_here}
use Rattle.evacuate.proofs.RearrangeLaws.{rearranged_same, rearranged_then, underway_ends}
use Rattle.evacuate.proofs.TreeLaws.{hung_cells}
use Rattle.evacuate.proofs.descent.reach.Goals as goal

pub of-node-requires : goal.of-node-requires
of-node-requires g c = let h = begins c.requires.can.stands.stood in hung_says h (c.cell.ensures.value _ (hung_there h))

pub loop-branch-init : goal.loop-branch-init
loop-branch-init g c = record {
  way = λ es t stood.
      let h = begins stood in
      subst (λ s. Underway g.C.CellRead.has c.args.usage.now c.args.stack.now s c.args.usage.now c.args.root c.args.root es c.of-node.result) (sym c.cell.ensures.same)
      (underway_first stood (c.requires.found es t stood) (hung_read h (c.cell.ensures.value _ (hung_there h)) c.of-node.ensures.back));
  writable = subst (λ s. IsWritable g.C.CellWrite.given reserve_account_of s c.args.usage.now c.args.root) (sym c.cell.ensures.same) c.requires.can.writable;
  cells = cells_same c.cell.ensures.same refl c.requires.can.ready;
}

pub index_at-index-requires : goal.index_at-index-requires
index_at-index-requires g c =
    let u = c.loop-branch.invariant.way _ _ c.requires.can.stands.stood in
    early u c.in-Some.branch c.in-Some.ensures.branch c.in-Some.ensures.before

pub overflow_add-branch : goal.overflow_add-branch
overflow_add-branch g c =
    let u = c.loop-branch.invariant.way _ _ c.requires.can.stands.stood in
    let h = underway_hung u c.in-Some.ensures.branch in
    let i = (hung_cells h.hung (ap first_of h.is) (ap width_of h.is)).row.row.inside in
    let l = index_inside u c.in-Some.branch c.in-Some.ensures.branch c.in-Some.ensures.before in
    let e = c.index_at-index.ensures in
    Fits-lt {n = 4194304} (omega arith) (Fits-lit tt)

pub pass-requires-clause-may_pass : goal.pass-requires-clause-may_pass
pass-requires-clause-may_pass g c = record {
  index = (
      let u = c.loop-branch.invariant.way _ _ c.requires.can.stands.stood in
      let l = index_inside u c.in-Some.branch c.in-Some.ensures.branch c.in-Some.ensures.before in
      let e = c.index_at-index.ensures in omega arith
      );
  stays = λ e. sym c.is_mutable-stays.ensures ∙ e;
  due = λ e. inr (sym c.is_mutable-stays.ensures ∙ e);
}

pub pass-requires-clause-can : goal.pass-requires-clause-can
pass-requires-clause-can g c =
    let i = c.loop-branch.invariant in
    record { hung = underway_hung (i.way _ _ c.requires.can.stands.stood) c.in-Some.ensures.branch; writable = i.writable; ready = i.cells.ready }

pub returns-in_err-at-clause-rearranged : goal.returns-in_err-at-clause-rearranged
returns-in_err-at-clause-rearranged g c =
    let i = c.loop-branch.invariant in
    rearranged_then (underway_ends i.way i.cells) (rearranged_same c.in_err-at.ensures.unmoved.same c.in_err-at.ensures.unmoved.unchanged i.cells.ready)

pub returns-in_err-at-clause-short : goal.returns-in_err-at-clause-short
returns-in_err-at-clause-short g c =
    let u = c.loop-branch.invariant.way _ _ c.requires.can.stands.stood in
    let stays = c.in_err-at.ensures.unmoved in
    by_err c.from_residual.result (record { full = stays.full; left = λ given fills. subst HasSparse (sym stays.unchanged) (underway_left u (c.loop-branch.invariant.cells.moves given fills)) })

pub cell-requires-in-Some : goal.cell-requires-in-Some
cell-requires-in-Some g c =
    let u = c.loop-branch.invariant.way _ _ c.requires.can.stands.stood in
    let b = c.in-Some.branch in
    let w = c.in_ok-at.ensures.passed.hung c.args.root c.requires.can.stands.es u.upper (plug u.rest u.end) u.hung (branch_node_is u b c.in-Some.ensures.branch c.in-Some.ensures.before) in
    record { there = (_, further_there u b c.in-Some.ensures.branch c.in-Some.ensures.before c.index_at-index.ensures w) }

pub of-node-requires-in-Some : goal.of-node-requires-in-Some
of-node-requires-in-Some g c =
    let u = c.loop-branch.invariant.way _ _ c.requires.can.stands.stood in
    let b = c.in-Some.branch in
    let w = c.in_ok-at.ensures.passed.hung c.args.root c.requires.can.stands.es u.upper (plug u.rest u.end) u.hung (branch_node_is u b c.in-Some.ensures.branch c.in-Some.ensures.before) in
    further_says u b c.in-Some.ensures.branch c.in-Some.ensures.before c.index_at-index.ensures w (c.cell-in-Some.ensures.value _ (further_there u b c.in-Some.ensures.branch c.in-Some.ensures.before c.index_at-index.ensures w))

pub loop-branch-smaller : goal.loop-branch-smaller
loop-branch-smaller g c =
    let u = c.loop-branch.invariant.way _ _ c.requires.can.stands.stood in
    let b = c.in-Some.branch in
    let w = c.in_ok-at.ensures.passed.hung c.args.root c.requires.can.stands.es u.upper (plug u.rest u.end) u.hung (branch_node_is u b c.in-Some.ensures.branch c.in-Some.ensures.before) in
    fewer_places u b c.in-Some.ensures.branch c.in-Some.ensures.before c.index_at-index.ensures w (c.cell-in-Some.ensures.value _ (further_there u b c.in-Some.ensures.branch c.in-Some.ensures.before c.index_at-index.ensures w)) c.of-node-in-Some.ensures.back

pub loop-branch-preserved : goal.loop-branch-preserved
loop-branch-preserved g c = record {
  way = λ es t stood.
      let u = c.loop-branch.invariant.way es t stood in
      let b = c.in-Some.branch in
      let w = c.in_ok-at.ensures.passed.hung c.args.root es u.upper (plug u.rest u.end) u.hung (branch_node_is u b c.in-Some.ensures.branch c.in-Some.ensures.before) in
      underway_further u b c.in-Some.ensures.branch c.in-Some.ensures.before c.index_at-index.ensures w c.cell-in-Some.ensures.same (c.cell-in-Some.ensures.value _ (further_there u b c.in-Some.ensures.branch c.in-Some.ensures.before c.index_at-index.ensures w)) c.of-node-in-Some.ensures.back;
  writable = subst (λ s. IsWritable g.C.CellWrite.given reserve_account_of s c.pass.new.usage c.in_ok-at.at) (sym c.cell-in-Some.ensures.same) c.in_ok-at.ensures.passed.writable;
  cells = let p = c.in_ok-at.ensures.cells in cells_then (cells_then c.loop-branch.invariant.cells p) (cells_same c.cell-in-Some.ensures.same refl p.ready);
}

pub returns-clause-reached : goal.returns-clause-reached
returns-clause-reached g c = record { reached = λ es t stood. reached_here (c.loop-branch.invariant.way es t stood) (c.branch_before.ensures.none c.in_default.is); writable = c.loop-branch.invariant.writable }

pub returns-clause-rearranged : goal.returns-clause-rearranged
returns-clause-rearranged g c = let i = c.loop-branch.invariant in underway_ends i.way i.cells
