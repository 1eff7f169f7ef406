use Rattle.trie_model.proofs.NodeLaws.{places_left}
use Rattle.evacuate.specs.Rearranging.{OnWay}
use Rattle.evacuate.proofs.path_walk.go_on.Given as goal

abbrev pub invariant-loop-passage : goal.invariant-loop-passage
invariant-loop-passage g l = OnWay g.C.CellRead.has g.C.CellWrite.kept g.C.CellWrite.given l.fn.root l.fn.cells l.fn.usage l.cells l.usage l.at l.node

abbrev pub decreases-loop-passage : goal.decreases-loop-passage
decreases-loop-passage g l = places_left l.node
