use Rattle.chunk_cells.proofs.CopyLaws.{Upto}
use Rattle.chunk_cells.proofs.plain.copy_among.Given as goal

abbrev pub invariant-loop-k : goal.invariant-loop-k
invariant-loop-k l = Upto l.fn.cells l.cells l.from l.to l.n l.k
