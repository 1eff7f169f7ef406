use Rattle.std.proofs.Common.{Some, [], ◌∷◌}
use Rattle.cell_tests.specs.OneCell.{cell_of}
use Rattle.cell_tests.proofs.stress.transact.Given as goal

abbrev pub ghosts-write_next : goal.ghosts-write_next
ghosts-write_next a = record { table = a.turn.place.table_id; view = a.turn.place.me.0 }

abbrev pub ghosts-publish : goal.ghosts-publish
ghosts-publish a = record { change = Some a.next; image = cell_of a.next ∷ [] }
