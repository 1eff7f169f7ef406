use Rattle.evacuate.specs.Rearranging.{Rearranged}
use Rattle.evacuate.proofs.evacuation.try_lists.Given as goal

abbrev pub invariant-loop-round : goal.invariant-loop-round
invariant-loop-round g l = Rearranged g.C.CellRead.has g.C.CellWrite.kept g.C.CellWrite.given l.fn.root l.fn.cells l.fn.usage l.cells l.usage
