use Rattle.evacuate.proofs.RearrangeLaws.{rearranged_then, can_again}
use Rattle.evacuate.proofs.path_list.step_in_all.Goals as goal

pub step_in_chunk-requires : goal.step_in_chunk-requires
step_in_chunk-requires g c = can_again c.loop-chunk.invariant c.requires

pub returns-in_err-step_in_chunk-clause-rearranged : goal.returns-in_err-step_in_chunk-clause-rearranged
returns-in_err-step_in_chunk-clause-rearranged g c = rearranged_then c.loop-chunk.invariant c.step_in_chunk.ensures.rearranged

pub loop-chunk-preserved : goal.loop-chunk-preserved
loop-chunk-preserved g c = rearranged_then c.loop-chunk.invariant c.step_in_chunk.ensures.rearranged
