use Rattle.std.proofs.Common.{◌≡◌, length, map, take}
use Rattle.chunk_usage.specs.Ledger.{Row}
use Rattle.qp_multi.proofs.kept.Versions.of.Given as goal

abbrev pub invariant-loop-i : goal.invariant-loop-i
invariant-loop-i l = record {
  long : length l.numbers ≡ 65;
  front : take l.i l.numbers ≡ map (λ (row : Row). row.version) (take l.i l.kept);
}
