use Rattle.qp_multi.proofs.pass.Pass.account_beside.Given as goal

abbrev pub ghosts-look_beside : goal.ghosts-look_beside
ghosts-look_beside g a = record { passes = a.shared.now.table.shared.key.passes }
