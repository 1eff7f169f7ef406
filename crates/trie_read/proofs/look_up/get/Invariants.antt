use Rattle.trie_read.proofs.look_up.get.Given as goal

abbrev pub ghosts-get_from : goal.ghosts-get_from
ghosts-get_from g a = record { name = a.blank.name; parts = a.blank.parts }
