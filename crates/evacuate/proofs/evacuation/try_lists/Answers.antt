use Rattle.evacuate.proofs.RearrangeLaws.{rearranged_then, can_again}
use Rattle.evacuate.proofs.evacuation.try_lists.Goals as goal

pub move_listed-moved-requires : goal.move_listed-moved-requires
move_listed-moved-requires g c = can_again c.loop-round.invariant c.requires

pub returns-then-not-is_any_sparse-clause-rearranged : goal.returns-then-not-is_any_sparse-clause-rearranged
returns-then-not-is_any_sparse-clause-rearranged g c = rearranged_then c.loop-round.invariant c.move_listed-moved.ensures.rearranged

pub returns-then-is_err-clause-rearranged : goal.returns-then-is_err-clause-rearranged
returns-then-is_err-clause-rearranged g c = rearranged_then c.loop-round.invariant c.move_listed-moved.ensures.rearranged

pub loop-round-preserved : goal.loop-round-preserved
loop-round-preserved g c = rearranged_then c.loop-round.invariant c.move_listed-moved.ensures.rearranged
