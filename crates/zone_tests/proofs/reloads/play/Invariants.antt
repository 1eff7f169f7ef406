use Rattle.std.proofs.Common.{[], ◌∷◌}
use Rattle.zone_tests.proofs.reloads.play.Given as goal

abbrev pub ghosts-run : goal.ghosts-run
ghosts-run g a = record { tables = a.blank.shared.table.shared.table_id ∷ [] }
