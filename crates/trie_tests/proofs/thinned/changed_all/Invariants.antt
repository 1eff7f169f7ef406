use Rattle.trie_tests.specs.Tries.{IsTrie}
use Rattle.trie_tests.proofs.thinned.changed_all.Given as goal

abbrev pub invariant-loop-item : goal.invariant-loop-item
invariant-loop-item g l = IsTrie g.C.CellRead.has g.C.CellWrite.kept g.C.CellWrite.given g.U.Space.account l.cells l.usage l.root
