use Rattle.std.proofs.Common.{[], ◌∷◌}
use Rattle.index_tests.proofs.scenes.play_close.Given as goal

abbrev pub ghosts-close : goal.ghosts-close
ghosts-close g a = record { tables = a.blank.shared.table.shared.table_id ∷ [] }
