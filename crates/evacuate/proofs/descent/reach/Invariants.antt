use Rattle.std.proofs.Common.{List}
use Rattle.trie_model.specs.Keys.{Entry}
use Rattle.trie_model.specs.Trees.{Tree}
use Rattle.trie_model.proofs.NodeLaws.{places_left}
use Rattle.chunk_usage.specs.Rooms.{reserve_account_of}
use Rattle.trie_space.specs.Spaces.{IsWritable}
use Rattle.evacuate.specs.Moving.{MovesCells}
use Rattle.evacuate.specs.Places.{Stood}
use Rattle.evacuate.specs.Stacks.{Underway}
use Rattle.evacuate.proofs.descent.reach.Given as goal

abbrev pub invariant-loop-branch : goal.invariant-loop-branch
invariant-loop-branch g l =
    record {
      way : (es : List Entry) (t : Tree) → Stood g.C.CellRead.has l.fn.cells l.fn.usage l.fn.root es t → Underway g.C.CellRead.has l.fn.usage l.stack l.cells l.usage l.fn.root l.at es l.node;
      writable : IsWritable g.C.CellWrite.given reserve_account_of l.cells l.usage l.at;
      cells : MovesCells g.C.CellRead.has g.C.CellWrite.kept g.C.CellWrite.given l.fn.cells l.fn.usage l.cells l.usage;
    }

abbrev pub decreases-loop-branch : goal.decreases-loop-branch
decreases-loop-branch g l = places_left l.node
