use Rattle.std.proofs.Common.{◌≡◌, ◌*◌, ◌-◌, ◌≤◌}
use Rattle.shared_cells.specs.Cells.{HasCopied}
use Rattle.shared_cells.proofs.copying.copy_words.Given as goal

abbrev pub invariant-loop-done : goal.invariant-loop-done
invariant-loop-done g l = record {
  table : l.place.table_id ≡ l.fn.place.table_id;
  copied : HasCopied l.fn.place.me l.place.me l.from l.to (2 * l.done);
  within : l.done ≤ l.cells;
}

abbrev pub decreases-loop-done : goal.decreases-loop-done
decreases-loop-done g l = l.cells - l.done
