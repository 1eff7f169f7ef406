use Rattle.std.proofs.Common.{◌∙◌}
use Rattle.zone_text.proofs.AddressLemmas.{last_words, last_none, pushes_joined, joined_none}
use Rattle.zone_text.proofs.addresses.push_last_groups.Goals as goal

pub returns-in_default : goal.returns-in_default
returns-in_default c = last_none c.args.out.now.items c.args.parts.now c.in_default.ensures.cases

pub returns-then-not-branch : goal.returns-then-not-branch
returns-then-not-branch c = last_words c.args.parts.now c.in-Some.front.now c.in-Some.last.now c.in-Some.ensures.cases.0 ∙ joined_none _ _ (rw c.if-not-branch.true at c.in_ok-push_groups.ensures)

pub returns : goal.returns
returns c = pushes_joined c.args.out.now.items c.push_groups.new.out.items c.push_last.new.out.items _ _ _ c.in_ok-good.good (last_words c.args.parts.now c.in-Some.front.now c.in-Some.last.now c.in-Some.ensures.cases.0) (rw c.if-not-branch.false at c.in_ok-push_groups.ensures) c.in_ok-good.ensures
