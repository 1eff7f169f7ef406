use Rattle.evacuate.specs.Rearranging.{Rearranged}
use Rattle.evacuate.proofs.path_list.step_in_chunk.Given as goal

abbrev pub invariant-loop-place : goal.invariant-loop-place
invariant-loop-place g l = Rearranged g.C.CellRead.has g.C.CellWrite.kept g.C.CellWrite.given l.fn.root l.fn.cells l.fn.usage l.cells l.usage
