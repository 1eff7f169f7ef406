use Rattle.std.proofs.Common.{ℕ, suc, ◌+◌, ◌*◌, ◌<◌, ◌≤◌, List, Some, length}
use Rattle.trie_model.specs.Keys.{Entry}
use Rattle.chunk_usage.specs.Rooms.{Account}
use Rattle.trie_write.specs.Builds.{BuiltFront}
use Rattle.trie_write.specs.Entries.{entries_of_items}
use Rattle.trie_write.specs.Points.{Before}
use Rattle.trie_space.specs.Spaces.{Ready, Frame}
use Rattle.trie_write.proofs.BuildLaws.{Making}
use Rattle.trie_write.proofs.bulk.+build.Given as goal

abbrev pub invariant-build_front-loop-above : goal.invariant-build_front-loop-above
invariant-build_front-loop-above g l = record {
  built : (far : ℕ) × (l.low ≤ far) × BuiltFront (g.C.CellRead.has l.cells) (g.U.Space.account l.fn.usage) (g.U.Space.account l.usage) far (entries_of_items l.fn.items) (entries_of_items l.part.rest.now) l.part.next l.part.cell;
  shorter : length l.part.rest.now < length l.fn.items;
  frame : Frame g.C.CellRead.has g.C.CellWrite.kept g.C.CellWrite.given g.U.Space.account l.fn.cells l.fn.usage l.cells l.usage;
  ready : Ready g.C.CellWrite.kept g.C.CellWrite.given g.U.Space.account l.cells l.usage;
}

abbrev pub decreases-build_front-loop-above : goal.decreases-build_front-loop-above
decreases-build_front-loop-above g l = length l.part.rest.now

abbrev pub invariant-build_branch-loop-beside : goal.invariant-build_branch-loop-beside
invariant-build_branch-loop-beside g l = record {
  making : (base : Account) (es : List Entry) → BuiltFront (g.C.CellRead.has l.fn.cells) base (g.U.Space.account l.fn.usage) (suc l.fn.point.offset) es (entries_of_items l.fn.first.rest.now) (Some l.fn.point) l.fn.first.cell
      → Making (g.C.CellRead.has l.cells) base (g.U.Space.account l.usage) l.fn.point.offset es (entries_of_items l.rest) l.next l.positions l.row;
  shorter : length l.rest ≤ length l.fn.first.rest.now;
  went : Before l.fn.point.offset l.next → length l.rest < length l.fn.first.rest.now;
  frame : Frame g.C.CellRead.has g.C.CellWrite.kept g.C.CellWrite.given g.U.Space.account l.fn.cells l.fn.usage l.cells l.usage;
  ready : Ready g.C.CellWrite.kept g.C.CellWrite.given g.U.Space.account l.cells l.usage;
}

abbrev pub decreases-build_branch-loop-beside : goal.decreases-build_branch-loop-beside
decreases-build_branch-loop-beside g l = length l.rest

abbrev pub decreases-build_front : goal.decreases-build_front
decreases-build_front g l = 2 * length l.items.now

abbrev pub decreases-build_branch : goal.decreases-build_branch
decreases-build_branch g l = 2 * length l.first.rest.now + 1
