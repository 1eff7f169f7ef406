use Rattle.std.proofs.Common.{[], ◌∷◌}
use Rattle.job_threads.proofs.zone.run_zone.Given as goal

abbrev pub ghosts-run_named : goal.ghosts-run_named
ghosts-run_named g a = record { tables = a.blank.shared.table.shared.table_id ∷ [] }
