use Rattle.evacuate.proofs.RearrangeLaws.{rearranged_then, can_again}
use Rattle.evacuate.proofs.path_list.move_listed.Goals as goal

pub step_in_all-requires : goal.step_in_all-requires
step_in_all-requires g c = can_again c.copy_all.ensures.rearranged c.requires

pub returns-clause-rearranged : goal.returns-clause-rearranged
returns-clause-rearranged g c = rearranged_then c.copy_all.ensures.rearranged c.step_in_all.ensures.rearranged
