use Rattle.small_server.proofs.run.Given as goal

-- which tables and zones are opened
abbrev pub ghosts-open_and_serve-H-Named : goal.ghosts-open_and_serve-H-Named
ghosts-open_and_serve-H-Named g a = record { tables = a.opening.tables }

abbrev pub ghosts-open_and_serve-H-Home : goal.ghosts-open_and_serve-H-Home
ghosts-open_and_serve-H-Home g a = record { zones = a.opening.zones }
