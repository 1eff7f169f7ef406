use Rattle.std.proofs.Common.{◌≡◌, map, take, Ok}
use Rattle.std.specs.Prelude.{IsSomeAnd}
use Rattle.qp_multi.specs.Calls.{IsOfSame}
use Rattle.zone_change.specs.Views.{operation_view}
use Rattle.zone_edit.specs.Stores.{WorksOnSome}
use Rattle.zone_edit.specs.Blocks.{EditedInOrder}
use Rattle.zone_edit.proofs.applying.apply_all.Given as goal

abbrev pub invariant-loop-index : goal.invariant-loop-index
invariant-loop-index g l = record {
  of_same : IsOfSame l.fn.transaction l.transaction;
  works : IsSomeAnd l.transaction.locked.now.working WorksOnSome;
  so_far : EditedInOrder l.origin (map operation_view (take l.index l.operations)) (Ok tt) l.fn.transaction.locked.now.working l.transaction.locked.now.working;
}
