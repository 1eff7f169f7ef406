use Rattle.std.proofs.Common.{◌-◌}
use Rattle.evacuate.specs.Rearranging.{Rearranged}
use Rattle.evacuate.proofs.path_list.step_in_all.Given as goal

abbrev pub invariant-loop-chunk : goal.invariant-loop-chunk
invariant-loop-chunk g l = Rearranged g.C.CellRead.has g.C.CellWrite.kept g.C.CellWrite.given l.fn.root l.fn.cells l.fn.usage l.cells l.usage

abbrev pub decreases-loop-chunk : goal.decreases-loop-chunk
decreases-loop-chunk g l = 4096 - l.from
