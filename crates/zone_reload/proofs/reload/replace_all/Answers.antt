use Rattle.std.proofs.Common.{List, inl, map, refl, subst}
use Rattle.zone_change.specs.Views.{operation_view}
use Rattle.zone_change.specs.declared.operations.Operation.{Operation}
use Rattle.zone_diff.specs.Blocks.{changes}
use Rattle.zone_edit.specs.Blocks.{Edited}
use Rattle.zone_reload.proofs.ReloadLemmas.{accepted_none, replaces_all}
use Rattle.zone_reload.proofs.reload.replace_all.Goals as goal

pub returns-in_default-clause-replaces : goal.returns-in_default-clause-replaces
returns-in_default-clause-replaces g c = record {
  differs = λ before shown. inl (refl, refl);
  accepted = λ before shown h k. accepted_none before c.args.transaction.now.locked.now.working c.requires.works;
  made = λ before shown h k. tt;
}

pub returns-clause-replaces : goal.returns-clause-replaces
returns-clause-replaces g c =
    let origin = c.args.origin.now in
    let old = c.args.transaction.now.locked.now.working in
    let new = c.execute.new.transaction.locked.now.working in
    replaces_all origin (g.V.Reading.holds c.args.version.now) c.args.zone.pairs (map operation_view c.in-Ok.operations.items) c.execute.result old new c.in-Ok.ensures.list
    (subst (λ (l : List Operation). Edited origin (changes (map operation_view l)) c.execute.result old new) c.deref.ensures.value c.execute.ensures.executes)
