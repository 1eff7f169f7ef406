use Rattle.std.proofs.Common.{◌≡◌, ◌+◌, drop, map}
use Rattle.zone_change.specs.Views.{operation_view}
use Rattle.job_model.specs.Needs.{cells_of_operations}
use Rattle.job_script.proofs.needs.cells_of_operations.Given as goal

-- what is left gives what all gives
abbrev pub invariant-loop-operation : goal.invariant-loop-operation
invariant-loop-operation l = l.cells + cells_of_operations (map operation_view (drop l.operation-index l.operations)) ≡ cells_of_operations (map operation_view l.operations)
