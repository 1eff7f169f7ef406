use Rattle.std.proofs.Common.{[], ◌∷◌}
use Rattle.zone_tests.proofs.nested.play.Given as goal

abbrev pub ghosts-run : goal.ghosts-run
ghosts-run g a = record { tables = a.table.shared.table.shared.table_id ∷ a.first.shared.table.shared.table_id ∷ a.second.shared.table.shared.table_id ∷ [] }
