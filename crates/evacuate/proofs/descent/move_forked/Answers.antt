use Rattle.std.proofs.Common.{◌∙◌}
use Rattle.evacuate.proofs.EndLaws.{node_top}
use Rattle.evacuate.proofs.RearrangeLaws.{rearranged_same, rearranged_then, can_again, can_read, found_on}
use Rattle.evacuate.proofs.descent.move_forked.Goals as goal

pub cell-top-requires : goal.cell-top-requires
cell-top-requires g c = let h = (can_again c.loop.invariant c.requires).stands in record { there = (_, h.stood.rooted.top) }

pub last_sparse-requires : goal.last_sparse-requires
last_sparse-requires g c =
    let h = (can_again c.loop.invariant c.requires).stands in (h.t, node_top h.stood c.cell-top.ensures.same c.cell-top.ensures.value)

pub move_found-requires-clause-can : goal.move_found-requires-clause-can
move_found-requires-clause-can g c = can_read (c.last_sparse.ensures.same ∙ c.cell-top.ensures.same) c.note.ensures (can_again c.loop.invariant c.requires)

pub move_found-requires-clause-found : goal.move_found-requires-clause-found
move_found-requires-clause-found g c = found_on c.cell-top.ensures.same c.cell-top.ensures.value c.last_sparse.ensures.same c.note.ensures (c.last_sparse.ensures.found c.if-not-last_sparse.false)

pub returns-in_err-move_found-clause-rearranged : goal.returns-in_err-move_found-clause-rearranged
returns-in_err-move_found-clause-rearranged g c =
    rearranged_then c.loop.invariant (rearranged_then (rearranged_same (c.last_sparse.ensures.same ∙ c.cell-top.ensures.same) c.note.ensures c.loop.invariant.cells.ready) c.move_found.ensures.rearranged)

pub loop-preserved : goal.loop-preserved
loop-preserved g c =
    rearranged_then c.loop.invariant (rearranged_then (rearranged_same (c.last_sparse.ensures.same ∙ c.cell-top.ensures.same) c.note.ensures c.loop.invariant.cells.ready) c.move_found.ensures.rearranged)
