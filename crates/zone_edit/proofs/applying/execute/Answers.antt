use Rattle.std.proofs.Common.{◌∙◌, map, Err, sym}
use Rattle.zone_model.specs.Transactions.{Transaction}
use Rattle.zone_model.specs.declared.Refusal.TheVariants.{Prereq}
use Rattle.zone_change.specs.Views.{operation_view, prerequisite_view}
use Rattle.zone_edit.specs.Blocks.{AppliesAll, MeetsAll, Executes, done_of}
use Rattle.zone_edit.specs.declared.refusal.EditRefusal.TheVariants as refusals
use Rattle.zone_edit.proofs.MeetLaws.{executed, whole_unmet}
use Rattle.zone_edit.proofs.WayLaws.{none_in_order, looked_in_order}
use Rattle.zone_edit.proofs.applying.execute.Goals as goal

pub returns-then-not-meets_all-clause-executes : goal.returns-then-not-meets_all-clause-executes
returns-then-not-meets_all-clause-executes g c =
    let asked : Transaction = record { needs = map prerequisite_view c.args.prerequisites.now; operations = map operation_view c.args.operations.now } in
    none_in_order c.args.origin.now asked.operations (MeetsAll asked.needs c.meets_all.result) (Executes c.args.origin.now asked (Err (refusals.Refused Prereq))) c.args.transaction.now.locked.now.working c.meets_all.new.transaction.locked.now.working
    (λ version e m. (m.0, whole_unmet c.args.origin.now asked version (sym m.1 ∙ c.if-not-meets_all.true))) c.meets_all.ensures.meets

pub returns-clause-executes : goal.returns-clause-executes
returns-clause-executes g c =
    let asked : Transaction = record { needs = map prerequisite_view c.args.prerequisites.now; operations = map operation_view c.args.operations.now } in
    looked_in_order c.args.origin.now (done_of asked.operations c.apply_all.result) (MeetsAll asked.needs c.meets_all.result) (AppliesAll c.args.origin.now asked.operations c.apply_all.result) (Executes c.args.origin.now asked c.apply_all.result)
    c.args.transaction.now.locked.now.working c.meets_all.new.transaction.locked.now.working c.apply_all.new.transaction.locked.now.working
    (λ version e f m. (m.0, λ y. executed c.args.origin.now asked c.apply_all.result version f (sym m.1 ∙ c.if-not-meets_all.false) y)) c.meets_all.ensures.meets c.apply_all.ensures.applies
