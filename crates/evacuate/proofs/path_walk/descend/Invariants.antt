use Rattle.std.proofs.Common.{◌≡◌}
use Rattle.trie_model.proofs.NodeLaws.{places_left}
use Rattle.chunk_usage.specs.Rooms.{reserve_account_of}
use Rattle.trie_space.specs.Spaces.{IsWritable}
use Rattle.evacuate.specs.Places.{Hangs}
use Rattle.evacuate.proofs.path_walk.descend.Given as goal

abbrev pub invariant-loop-descent : goal.invariant-loop-descent
invariant-loop-descent g l =
    record {
      same : l.cells ≡ l.fn.cells;
      hangs : Hangs g.C.CellRead.has l.fn.cells l.fn.usage l.fn.root l.at l.node;
      writable : IsWritable g.C.CellWrite.given reserve_account_of l.fn.cells l.fn.usage l.at;
    }

abbrev pub decreases-loop-descent : goal.decreases-loop-descent
decreases-loop-descent g l = places_left l.node
