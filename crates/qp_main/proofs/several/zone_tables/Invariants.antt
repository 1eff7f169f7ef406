use Rattle.std.proofs.Common.{◌≡◌, length, map}
use Rattle.std.specs.List.{All}
use Rattle.qp_main.proofs.several.zone_tables.Given as goal

abbrev pub invariant-loop-zone : goal.invariant-loop-zone
invariant-loop-zone l = record {
  many : length l.blanks.items ≡ l._zone;
  chunks : All (λ s. s.chunks ≡ l.chunks) (map (λ b. b.shared.table.shared.key) l.blanks.items);
  passes : All (λ s. s.passes ≡ l.passes) (map (λ b. b.shared.table.shared.key) l.blanks.items);
}
