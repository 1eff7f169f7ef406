use Rattle.std.proofs.Common.{◌≡◌}
use Rattle.trie_model.proofs.NodeLaws.{places_left}
use Rattle.evacuate.proofs.AlongLaws.{IsAt}
use Rattle.evacuate.proofs.finding.last_along.Given as goal

abbrev pub invariant-loop-descent : goal.invariant-loop-descent
invariant-loop-descent g l =
    record {
      same : l.cells ≡ l.fn.cells;
      here : IsAt (g.C.CellRead.has l.fn.cells) l.node;
    }

abbrev pub decreases-loop-descent : goal.decreases-loop-descent
decreases-loop-descent g l = places_left l.node
