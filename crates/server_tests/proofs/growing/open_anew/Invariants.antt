use Rattle.server_tests.proofs.growing.open_anew.Given as goal

abbrev pub ghosts-grown-H-Named : goal.ghosts-grown-H-Named
ghosts-grown-H-Named g a = record { tables = a.opening.tables }

abbrev pub ghosts-grown-H-Home : goal.ghosts-grown-H-Home
ghosts-grown-H-Home g a = record { zones = a.opening.zones }
