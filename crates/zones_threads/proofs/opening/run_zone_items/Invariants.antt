use Rattle.std.proofs.Common.{◌∷◌, map}
use Rattle.zones_threads.proofs.opening.run_zone_items.Given as goal

abbrev pub ghosts-run_named : goal.ghosts-run_named
ghosts-run_named g a = record { tables = a.table.shared.table.shared.table_id ∷ map (λ b. b.shared.table.shared.table_id) a.blanks.items }
