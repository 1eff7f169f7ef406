use Rattle.cell_tests.proofs.stress.open.Given as goal

abbrev pub ghosts-write_first : goal.ghosts-write_first
ghosts-write_first a = record { table = a.turn.place.table_id; view = a.turn.place.me.0 }
