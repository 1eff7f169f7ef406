use Rattle.evacuate.proofs.finding.+is_item_in.Given as goal

abbrev pub decreases-is_item_in : goal.decreases-is_item_in
decreases-is_item_in g l = l.len
