use Rattle.evacuate.specs.Rearranging.{Rearranged}
use Rattle.evacuate.proofs.descent.move_forked.Given as goal

abbrev pub invariant-loop : goal.invariant-loop
invariant-loop g l = Rearranged g.C.CellRead.has g.C.CellWrite.kept g.C.CellWrite.given l.fn.root l.fn.cells l.fn.usage l.cells l.usage
