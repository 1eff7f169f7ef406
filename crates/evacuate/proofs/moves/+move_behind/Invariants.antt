use Rattle.evacuate.proofs.moves.+move_behind.Given as goal

abbrev pub decreases-move_behind : goal.decreases-move_behind
decreases-move_behind g l = l.len
