use Rattle.server_tests.proofs.reloading.play.Given as goal

abbrev pub ghosts-beside-H-Named : goal.ghosts-beside-H-Named
ghosts-beside-H-Named g a = record { tables = a.opening.tables }

abbrev pub ghosts-beside-H-Home : goal.ghosts-beside-H-Home
ghosts-beside-H-Home g a = record { zones = a.opening.zones }
