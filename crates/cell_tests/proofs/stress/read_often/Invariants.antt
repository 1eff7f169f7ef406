use Rattle.std.proofs.Common.{◌≡◌, Some}
use Rattle.cell_tests.proofs.stress.read_often.Given as goal

abbrev pub invariant-loop : goal.invariant-loop
invariant-loop l = (l.pass.place.table_id ≡ l.index.table.shared.table_id) × (l.pass.place.me.0.seen.opening ≡ Some 0) × (l.wrong ≡ 0)
