use Rattle.evacuate.proofs.RearrangeLaws.{rearranged_then, can_again}
use Rattle.evacuate.proofs.path_list.step_in_chunk.Goals as goal

pub step_along-requires : goal.step_along-requires
step_along-requires g c = can_again c.loop-place.invariant c.requires

pub returns-in_err-step_along-clause-rearranged : goal.returns-in_err-step_along-clause-rearranged
returns-in_err-step_along-clause-rearranged g c = rearranged_then c.loop-place.invariant c.step_along.ensures.rearranged

pub loop-place-preserved : goal.loop-place-preserved
loop-place-preserved g c = rearranged_then c.loop-place.invariant c.step_along.ensures.rearranged
