use Rattle.std.proofs.Common.{◌∙◌, sym}
use Rattle.zone_list.proofs.CutLemmas.{searched_more, found_part, found_none}
use Rattle.zone_list.proofs.parts.front_of.Goals as goal

pub returns-then-is_head : goal.returns-then-is_head
returns-then-is_head c = found_part c.loop-at.invariant c.line_at-upto.ensures (sym c.is_head.ensures ∙ c.if-is_head.true)

pub loop-at-preserved : goal.loop-at-preserved
loop-at-preserved c = searched_more c.loop-at.invariant c.line_at-upto.ensures (sym c.is_head.ensures ∙ c.if-is_head.false)

pub returns : goal.returns
returns c = found_none c.loop-at.invariant c.loop-at-test.false
