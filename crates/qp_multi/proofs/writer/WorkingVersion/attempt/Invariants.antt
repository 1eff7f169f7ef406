use Rattle.qp_multi.proofs.writer.WorkingVersion.attempt.Given as goal

abbrev pub ghosts-try_once : goal.ghosts-try_once
ghosts-try_once g a = record { table = a.self.seat.place.table_id; view = a.self.seat.place.me.0 }
