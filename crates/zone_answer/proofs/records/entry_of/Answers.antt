use Rattle.std.proofs.Common.{◌∙◌, length, sym}
use Rattle.std.proofs.lemmas.List.{nil_from_length}
use borrow.Author.Tests.{eqb-true}
use Rattle.rr_data.proofs.EntryChanges.{item_once}
use Rattle.rr_data.proofs.ItemViewLemmas.{not_nil, says_nothing, says_item}
use Rattle.zone_answer.proofs.records.entry_of.Goals as goal

pub returns-then-is_empty : goal.returns-then-is_empty
returns-then-is_empty c entry h =
    c.empty.ensures ∙ sym (says_nothing c.args.name.now c.args.octets.now entry h (nil_from_length c.args.octets.now (eqb-true (length c.args.octets.now) 0 (sym c.is_empty.ensures ∙ c.if-is_empty.true))))

pub returns-in-Ok : goal.returns-in-Ok
returns-in-Ok c entry h =
    let item = says_item c.args.name.now c.args.octets.now entry h (not_nil (length c.args.octets.now) (sym c.is_empty.ensures ∙ c.if-is_empty.false)) in
    (item_once c.args.octets.now c.in-Ok.ensures.0 c.args.name.now c.in-Ok.entry entry c.in-Ok.ensures.1 item).1
