use Rattle.qp_multi.proofs.writer.WorkingVersion.undo.Given as goal

abbrev pub ghosts-free_unreached : goal.ghosts-free_unreached
ghosts-free_unreached g a = record { table = a.seat.place.table_id; view = a.seat.place.me.0 }
