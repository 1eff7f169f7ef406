use Rattle.std.proofs.Common.{◌≡◌, map, drop}
use Rattle.std.specs.Prelude.{IsSomeAnd}
use Rattle.zone_model.specs.Versions.{Version}
use Rattle.zone_model.specs.Transactions.{all_met}
use Rattle.qp_multi.specs.Calls.{IsOfSame}
use Rattle.qp_multi.specs.declared.writer.WorkingVersion.{WorkingVersion}
use Rattle.zone_change.specs.Views.{prerequisite_view}
use Rattle.zone_edit.specs.Stores.{WorksOn, WorksOnSome, Edits}
use Rattle.zone_edit.proofs.prerequisites.meets_all.Given as goal

-- those that are left are met where all are
abbrev pub invariant-loop-prerequisite : goal.invariant-loop-prerequisite
invariant-loop-prerequisite g l = record {
  of_same : IsOfSame l.fn.transaction l.transaction;
  works : IsSomeAnd l.transaction.locked.now.working WorksOnSome;
  so_far : Edits 0 (λ (version : Version) (new : WorkingVersion). WorksOn new version × (all_met version (map prerequisite_view l.prerequisites) ≡ all_met version (map prerequisite_view (drop l.prerequisite-index l.prerequisites))))
      l.fn.transaction.locked.now.working l.transaction.locked.now.working;
}
