use Rattle.std.proofs.Common.{◌∙◌}
use Rattle.rr_data.proofs.FieldLemmas.{field_missing, field_next, All-first, All-rest, taken_all, taken_none, ahead_refused}
use Rattle.rr_data.proofs.fields.push_fields.Goals as goal

pub returns-in_default : goal.returns-in_default
returns-in_default c = field_missing c.args.bytes.now c.args.out.now.items c.loop-at.out.items _ c.loop-at.at c.args.fields.now c.loop-at.rest.now _ c.loop-at-test.true c.in_default.ensures.cases c.loop-at.invariant.goes_on

pub returns-then-not-branch : goal.returns-then-not-branch
returns-then-not-branch c = ahead_refused c.args.out.now.items _ _ (c.loop-at.invariant.goes_on ∙ field_next c.args.bytes.now c.loop-at.out.items _ c.loop-at.at c.args.fields.now c.loop-at.rest.now c.in-Some.others.now c.in-Some.token.now _ c.loop-at-test.true c.in-Some.ensures.cases.0 ∙ taken_none _ _ _ _ (rw c.if-not-branch.true at c.in_ok-push_word.ensures))

pub loop-at-preserved : goal.loop-at-preserved
loop-at-preserved c = record {
  placed = All-rest c.args.bytes.now c.loop-at.rest.now c.in-Some.others.now c.in-Some.token.now c.in-Some.ensures.cases.0 c.loop-at.invariant.placed;
  goes_on = c.loop-at.invariant.goes_on ∙ field_next c.args.bytes.now c.loop-at.out.items _ c.loop-at.at c.args.fields.now c.loop-at.rest.now c.in-Some.others.now c.in-Some.token.now _ c.loop-at-test.true c.in-Some.ensures.cases.0 ∙ taken_all _ _ _ _ _ (rw c.if-not-branch.false at c.in_ok-push_word.ensures);
}

pub push_word-requires : goal.push_word-requires
push_word-requires c = All-first c.args.bytes.now c.loop-at.rest.now c.in-Some.others.now c.in-Some.token.now c.in-Some.ensures.cases.0 c.loop-at.invariant.placed
