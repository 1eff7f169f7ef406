use Rattle.std.proofs.Common.{◌∙◌, ℕ, ◌+◌, ◌≤◌, length, List, [], map, take, drop, Ok, Err, refl, ap, sym, subst, arith}
use Rattle.std.proofs.lemmas.List.{length-map, length-take-le, take_all}
use Rattle.zone_model.specs.Versions.{Version, Operation}
use Rattle.zone_change.specs.Views.{operation_view}
use Rattle.zone_change.specs.declared.operations.Operation.{Operation as Said}
use Rattle.qp_multi.specs.declared.writer.WorkingVersion.{WorkingVersion}
use Rattle.zone_edit.proofs.ApplyLaws.{up_to, all_around}
use Rattle.zone_edit.specs.Stores.{WorksOn, WorksOnSome}
use Rattle.zone_edit.specs.Blocks.{Applies, AppliesAll, EditedInOrder}
use Rattle.zone_edit.proofs.EditLaws.{edits_same, edits_some}
use Rattle.zone_edit.proofs.WayLaws.{none_in_order, more_in_order, refused_in_order}
use Rattle.zone_edit.proofs.applying.apply_all.Goals as goal

pub loop-index-init : goal.loop-index-init
loop-index-init g c = record {
  of_same = record { home = refl; locked = refl; place = refl };
  works = c.requires;
  so_far = none_in_order c.args.origin.now [] (λ version d. WorksOn d version) (AppliesAll c.args.origin.now [] (Ok tt)) c.args.transaction.now.locked.now.working c.args.transaction.now.locked.now.working (λ version d on. (on, (version, refl, on)))
      (edits_same 0 WorksOnSome (λ (version : Version) (d : WorkingVersion). WorksOn d version) c.args.transaction.now.locked.now.working c.requires (λ d version on. on));
}

pub loop-index-preserved : goal.loop-index-preserved
loop-index-preserved g c = record {
  of_same = (let now = c.apply.ensures.of_same in let before = c.loop-index.invariant.of_same in record { home = now.home ∙ before.home; locked = now.locked ∙ before.locked; place = now.place ∙ before.place });
  works = edits_some 1 (Applies c.args.origin.now (operation_view c.index-operations-index.result) (Ok tt)) c.loop-index.transaction.locked.now.working c.apply.new.transaction.locked.now.working c.loop-index.invariant.works (λ version e a. record { version = a.0; on = a.2 }) c.in_default.ensures.applies;
  so_far = subst (λ (l : List Operation). EditedInOrder c.args.origin.now l (Ok tt) c.args.transaction.now.locked.now.working c.apply.new.transaction.locked.now.working)
      (sym (up_to operation_view c.args.operations.now c.loop-index.index c.index-operations-index.result c.loop-index-test.true c.index-operations-index.is))
      (more_in_order c.args.origin.now (map operation_view (take c.loop-index.index c.args.operations.now)) (operation_view c.index-operations-index.result) c.args.transaction.now.locked.now.working c.loop-index.transaction.locked.now.working c.apply.new.transaction.locked.now.working
      c.loop-index.invariant.so_far c.in_default.ensures.applies);
}

pub returns-in-Err-clause-applies : goal.returns-in-Err-clause-applies
returns-in-Err-clause-applies g c =
    let lt = c.loop-index-test.true in
    let long = length-map (take c.loop-index.index c.args.operations.now) operation_view ∙ length-take-le c.loop-index.index c.args.operations.now (omega arith) in
    refused_in_order c.args.origin.now (map operation_view (take c.loop-index.index c.args.operations.now)) (map operation_view (drop (c.loop-index.index + 1) c.args.operations.now)) (map operation_view c.args.operations.now) (operation_view c.index-operations-index.result)
    (c.loop-index.index + 1) c.in-Err.refusal c.args.transaction.now.locked.now.working c.loop-index.transaction.locked.now.working c.apply.new.transaction.locked.now.working
    (all_around operation_view c.args.operations.now c.loop-index.index c.index-operations-index.result lt c.index-operations-index.is) (ap (λ (n : ℕ). n + 1) (sym long)) (λ at request e. c.apply.ensures.want.number at request (c.in-Err.is ∙ ap (λ x. Err x) e))
    c.loop-index.invariant.so_far c.in-Err.ensures.applies

pub returns-clause-applies : goal.returns-clause-applies
returns-clause-applies g c =
    let past : length c.args.operations.now ≤ c.loop-index.index = omega (arith, c.loop-index-test.false) in
    subst (λ (l : List Said). EditedInOrder c.args.origin.now (map operation_view l) (Ok tt) c.args.transaction.now.locked.now.working c.loop-index.transaction.locked.now.working) (take_all c.loop-index.index c.args.operations.now past) c.loop-index.invariant.so_far
