use Rattle.std.proofs.Common.{◌∙◌}
use Rattle.evacuate.proofs.RearrangeLaws.{rearranged_same, rearranged_then, can_read, found_on}
use Rattle.evacuate.proofs.descent.copy_forked.Goals as goal

pub reach-requires-clause-can : goal.reach-requires-clause-can
reach-requires-clause-can g c = can_read (c.last_sparse.ensures.same ∙ c.cell-top.ensures.same) c.note.ensures c.requires

pub reach-requires-clause-found : goal.reach-requires-clause-found
reach-requires-clause-found g c = found_on c.cell-top.ensures.same c.cell-top.ensures.value c.last_sparse.ensures.same c.note.ensures (c.last_sparse.ensures.found c.if-last_sparse.true)

pub returns-in_err-reach-clause-rearranged : goal.returns-in_err-reach-clause-rearranged
returns-in_err-reach-clause-rearranged g c = rearranged_then (rearranged_same (c.last_sparse.ensures.same ∙ c.cell-top.ensures.same) c.note.ensures c.requires.ready) c.reach.ensures.rearranged

pub returns-then-last_sparse-clause-rearranged : goal.returns-then-last_sparse-clause-rearranged
returns-then-last_sparse-clause-rearranged g c = rearranged_then (rearranged_same (c.last_sparse.ensures.same ∙ c.cell-top.ensures.same) c.note.ensures c.requires.ready) c.reach.ensures.rearranged
