use Rattle.std.proofs.Common.{◌≡◌}
use Rattle.cell_tests.proofs.account.two_passes_publish_in_turn.Given as goal

abbrev pub invariant-loop-want : goal.invariant-loop-want
invariant-loop-want g l = (l.turn.place.table_id ≡ l.account.table.shared.table_id) × (l.next.place.table_id ≡ l.account.table.shared.table_id) × (l.other.place.table_id ≡ l.account.table.shared.table_id) × (l.turn.version ≡ l.want-index)
