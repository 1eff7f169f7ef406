use Rattle.std.proofs.Common.{[], ◌∷◌}
use Rattle.live_session.proofs.serving.live_on.Given as goal

abbrev pub ghosts-serve_named : goal.ghosts-serve_named
ghosts-serve_named g a = record { tables = a.blank.shared.table.shared.table_id ∷ [] }
