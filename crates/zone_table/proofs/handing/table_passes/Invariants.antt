use Rattle.std.specs.Prelude.{◌≡◌, ◌++◌, [], All, None, length, map}
use Rattle.zone_table.proofs.handing.table_passes.Given as goal

-- those that are left, and behind them those that were taken
abbrev pub invariant-loop-pass : goal.invariant-loop-pass
invariant-loop-pass g l = record {
  tables : l.passes.items ++ map (λ p. p.table) l.all.items ≡ l.fn.passes.items;
  none : All (λ p. p.zones.items ≡ []) l.all.items;
  nothing : All (λ p. p.remembered.version ≡ None) l.all.items;
}

abbrev pub decreases-loop-pass : goal.decreases-loop-pass
decreases-loop-pass g l = length l.passes.items
