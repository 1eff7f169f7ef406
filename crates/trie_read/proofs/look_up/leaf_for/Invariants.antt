use Rattle.std.proofs.Common.{◌≡◌, ◌+◌, ◌<◌, ◌≤◌, List, Some, length}
use Rattle.trie_model.specs.Keys.{Entry}
use Rattle.trie_model.specs.Memory.{Stands}
use Rattle.trie_model.proofs.NodeLaws.{places_left}
use Rattle.trie_read.proofs.FindLaws.{Along}
use Rattle.trie_read.proofs.look_up.leaf_for.Given as goal

abbrev pub invariant-loop-node : goal.invariant-loop-node
invariant-loop-node g l = record {
  same : l.cells ≡ l.fn.cells;
  counted : l.fn.steps < l.steps;
  places : l.steps + places_left l.node ≤ l.fn.steps + 505;
  few : l.steps ≤ l.fn.steps + (length l.key + 2);
  along : (version : List Entry) → Stands (g.C.CellRead.has l.fn.cells) (Some l.root) version → Along (g.C.CellRead.has l.fn.cells) l.key version l.node;
}

abbrev pub decreases-loop-node : goal.decreases-loop-node
decreases-loop-node g l = places_left l.node
