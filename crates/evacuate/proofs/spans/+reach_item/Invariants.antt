use Rattle.evacuate.proofs.spans.+reach_item.Given as goal

abbrev pub decreases-reach_item : goal.decreases-reach_item
decreases-reach_item g l = l.len
