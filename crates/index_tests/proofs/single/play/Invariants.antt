use Rattle.std.proofs.Common.{[], ◌∷◌}
use Rattle.index_tests.proofs.single.play.Given as goal

abbrev pub ghosts-run : goal.ghosts-run
ghosts-run g a = record { tables = a.blank.shared.table.shared.table_id ∷ [] }
