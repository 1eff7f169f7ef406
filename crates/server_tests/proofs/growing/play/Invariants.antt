use Rattle.server_tests.proofs.growing.play.Given as goal

abbrev pub ghosts-grows-H-Named : goal.ghosts-grows-H-Named
ghosts-grows-H-Named g a = record { tables = a.opening.tables }

abbrev pub ghosts-grows-H-Home : goal.ghosts-grows-H-Home
ghosts-grows-H-Home g a = record { zones = a.opening.zones }
