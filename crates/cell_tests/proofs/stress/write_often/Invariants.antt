use Rattle.std.proofs.Common.{◌≡◌}
use Rattle.cell_tests.specs.OneCell.{IsTold}
use Rattle.cell_tests.proofs.stress.write_often.Given as goal

abbrev pub invariant-loop : goal.invariant-loop
invariant-loop l = (l.turn.place.table_id ≡ l.index.table.shared.table_id) × (l.pass.place.table_id ≡ l.index.table.shared.table_id) × IsTold l.index.table.shared.key.chunks l.turn.place.me.0 l.given l.kept
