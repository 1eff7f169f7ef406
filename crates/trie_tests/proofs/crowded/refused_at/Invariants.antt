use Rattle.trie_tests.specs.Tries.{IsTrie}
use Rattle.trie_tests.proofs.crowded.refused_at.Given as goal

abbrev pub invariant-loop-step : goal.invariant-loop-step
invariant-loop-step g l = IsTrie g.C.CellRead.has g.C.CellWrite.kept g.C.CellWrite.given g.U.Space.account l.cells l.usage l.root
