use Rattle.qp_multi.proofs.writer.WorkingVersion.settle.Given as goal

abbrev pub ghosts-evacuate : goal.ghosts-evacuate
ghosts-evacuate g a = record { table = a.self.seat.place.table_id; view = a.self.seat.place.me.0 }
