use Rattle.std.proofs.Common.{◌≡◌, ◌+◌, ◌-◌, ◌/◌, ℕ, ◌<◌, ◌≤◌, false, not, length, count_by}
use Rattle.std.specs.Prelude.{◌&&◌}
use Rattle.packed_node.specs.declared.Cell.{Cell}
use Rattle.chunk_sets.specs.ChunkSets.{has}
use Rattle.chunk_usage.proofs.usage.recycling.free_all.Given as goal

abbrev pub invariant-loop-chunk : goal.invariant-loop-chunk
invariant-loop-chunk g l = record {
  same : length l.given ≡ length l.fn.given;
  done : (k : ℕ) → k < l.from → has l.given k ≡ (has l.fn.given k && not (has l.chunks k));
  left : (k : ℕ) → l.from ≤ k → has l.given k ≡ has l.fn.given k;
  count : count_by not l.given ≡ count_by not l.fn.given + l.count;
  bound : (l.count ≤ l.from) × (l.from ≤ length l.chunks);
  given : g.C.CellWrite.given l.cells ≡ l.given;
  others : (q : ℕ) (c : Cell) → has l.chunks (q / 1024) ≡ false → g.C.CellRead.has l.fn.cells q c → g.C.CellRead.has l.cells q c;
  kept : g.C.CellWrite.kept l.cells ≡ g.C.CellWrite.kept l.fn.cells;
}

abbrev pub decreases-loop-chunk : goal.decreases-loop-chunk
decreases-loop-chunk g l = length l.chunks - l.from
