use Rattle.std.proofs.Common.{[], ◌∷◌}
use Rattle.feed_threads.proofs.zone.run_list.Given as goal

abbrev pub ghosts-run_list_named : goal.ghosts-run_list_named
ghosts-run_list_named g a = record { tables = a.blank.shared.table.shared.table_id ∷ [] }
