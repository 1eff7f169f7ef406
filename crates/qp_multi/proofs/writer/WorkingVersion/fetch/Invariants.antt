use Rattle.qp_multi.proofs.writer.WorkingVersion.fetch.Given as goal

abbrev pub ghosts-fetch_item : goal.ghosts-fetch_item
ghosts-fetch_item g a = record { table = a.seat.place.table_id; view = a.seat.place.me.0 }
