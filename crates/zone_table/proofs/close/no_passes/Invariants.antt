use Rattle.std.specs.Prelude.{◌≡◌, ◌≤◌, ◌-◌, [], All, length}
use Rattle.zone_table.proofs.close.no_passes.Given as goal

-- the lists so far have no pass
abbrev pub invariant-loop-alloc : goal.invariant-loop-alloc
invariant-loop-alloc g l = record {
  few : length l.lists.items ≤ l.fn.count;
  none : All (λ m. m.items ≡ []) l.lists.items;
}

abbrev pub decreases-loop-alloc : goal.decreases-loop-alloc
decreases-loop-alloc g l = l.fn.count - length l.lists.items
