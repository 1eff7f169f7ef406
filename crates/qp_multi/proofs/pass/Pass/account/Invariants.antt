use Rattle.qp_multi.proofs.pass.Pass.account.Given as goal

abbrev pub ghosts-look : goal.ghosts-look
ghosts-look g a = record { passes = a.shared.now.table.shared.key.passes }
