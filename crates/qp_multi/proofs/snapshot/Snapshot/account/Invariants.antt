use Rattle.qp_multi.proofs.snapshot.Snapshot.account.Given as goal

abbrev pub ghosts-look_pinned : goal.ghosts-look_pinned
ghosts-look_pinned g a = record { passes = a.shared.now.table.shared.key.passes }
