use Rattle.evacuate.proofs.surveys.+pass_item.Given as goal

abbrev pub decreases-pass_item : goal.decreases-pass_item
decreases-pass_item g l = l.len
