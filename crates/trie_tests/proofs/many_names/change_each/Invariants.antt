use Rattle.trie_tests.specs.Tries.{IsTrie}
use Rattle.trie_tests.proofs.many_names.change_each.Given as goal

abbrev pub invariant-loop-i : goal.invariant-loop-i
invariant-loop-i g l = IsTrie g.C.CellRead.has g.C.CellWrite.kept g.C.CellWrite.given g.U.Space.account l.cells l.usage l.root
