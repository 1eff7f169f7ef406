use Rattle.evacuate.proofs.RearrangeLaws.{rearranged_then, can_again}
use Rattle.evacuate.proofs.path_list.copy_all.Goals as goal

pub step_in_all-requires : goal.step_in_all-requires
step_in_all-requires g c = can_again c.loop.invariant c.requires

pub returns-in_err-step_in_all-clause-rearranged : goal.returns-in_err-step_in_all-clause-rearranged
returns-in_err-step_in_all-clause-rearranged g c = rearranged_then c.loop.invariant c.step_in_all.ensures.rearranged

pub returns-then-sparse-clause-rearranged : goal.returns-then-sparse-clause-rearranged
returns-then-sparse-clause-rearranged g c = rearranged_then c.loop.invariant c.step_in_all.ensures.rearranged

pub loop-preserved : goal.loop-preserved
loop-preserved g c = rearranged_then c.loop.invariant c.step_in_all.ensures.rearranged
