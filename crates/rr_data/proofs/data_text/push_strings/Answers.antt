use Rattle.std.proofs.Common.{arith, sym, ◌∙◌}
use Rattle.rr_data.proofs.StartsLemmas.{starts_chain, starts_pushed}
use Rattle.rr_data.proofs.StringTextLemmas.{none_left, none_more, string_cut, string_last, string_next}
use Rattle.rr_data.proofs.data_text.push_strings.Goals as goal

pub returns-in_default-clause-ok : goal.returns-in_default-clause-ok
returns-in_default-clause-ok c = none_left c.loop-left.left _ _ c.loop-left.out.items _ c.loop-left.invariant.goes_on c.in_default.ensures.cases

pub returns-in_default-split_octets-clause-ok : goal.returns-in_default-split_octets-clause-ok
returns-in_default-split_octets-clause-ok c =
    string_cut c.loop-left.left c.in-Some.len.now _ c.in-Some.behind.now _ c.loop-left.out.items _ c.loop-left.invariant.goes_on (omega arith) c.in-Some.ensures.cases.0 c.in_default-split_octets.ensures.splits

pub returns-then-is_empty-clause-ok : goal.returns-then-is_empty-clause-ok
returns-then-is_empty-clause-ok c =
    string_last c.loop-left.left c.in-Some.len.now _ c.in-Some.behind.now c.in-Some-split_octets.string.now c.in-Some-split_octets.others.now _ c.loop-left.out.items _ _ c.loop-left.invariant.goes_on (omega arith) c.in-Some.ensures.cases.0 c.in-Some-split_octets.ensures.splits (sym c.is_empty.ensures ∙ c.if-is_empty.true) c.in_ok-push_quoted.ensures.ok

pub loop-left-preserved : goal.loop-left-preserved
loop-left-preserved c = record {
  kept = starts_pushed _ c.push_quoted.new.out.items _ _ c.in_ok-push.ensures.items (starts_chain _ c.loop-left.out.items _ c.push_quoted.ensures.kept c.loop-left.invariant.kept);
  goes_on = string_next c.loop-left.left c.in-Some.len.now _ c.in-Some.behind.now c.in-Some-split_octets.string.now c.in-Some-split_octets.others.now _ c.loop-left.out.items c.push_quoted.new.out.items _ _ c.loop-left.invariant.goes_on (omega arith) c.in-Some.ensures.cases.0 c.in-Some-split_octets.ensures.splits (sym c.is_empty.ensures ∙ c.if-is_empty.false) c.in_ok-push_quoted.ensures.ok c.in_ok-push.ensures.items;
}

pub returns-clause-ok : goal.returns-clause-ok
returns-clause-ok c = none_more c.loop-left.left _ _ c.loop-left.out.items _ c.loop-left.invariant.goes_on (omega arith)
