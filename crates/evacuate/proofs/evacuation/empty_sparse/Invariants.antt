use Rattle.std.proofs.Common.{◌+◌, ◌*◌, min}
use Rattle.std.specs.Prelude.{if◌then◌else◌}
use Rattle.evacuate.specs.Fillings.{filled_on, old_chunks, old_live}
use Rattle.evacuate.proofs.EmptyLaws.{Emptying}
use Rattle.evacuate.proofs.evacuation.empty_sparse.Given as goal

abbrev pub invariant-passes : goal.invariant-passes
invariant-passes g l = Emptying g.C.CellRead.has g.C.CellWrite.kept g.C.CellWrite.given l.fn.root l.fn.cells l.fn.usage (filled_on l.fn.usage) l.at l.cells l.usage

abbrev pub decreases-passes : goal.decreases-passes
decreases-passes g l = 4 * old_live (old_chunks l.fn.usage.given (filled_on l.fn.usage)) l.usage.live + ((if l.resumed then 1 else 0) + 2 * min l.before 1)
