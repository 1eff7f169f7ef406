use Rattle.std.proofs.Common.{◌≡◌, ◌+◌, ◌∷◌, suc, map, Some, arith, subst}
use Rattle.std.specs.List.{slice_get}
use Rattle.zone_table.proofs.Lists.{mapped_at}
use Rattle.zones_threads.proofs.opening.run_zone_items.Goals as goal

pub run_named-requires-clause-named : goal.run_named-requires-clause-named
run_named-requires-clause-named g c = λ κs bounds k b there.
    let tables = c.args.table.shared.table.shared.table_id ∷ map (λ b. b.shared.table.shared.table_id) c.args.blanks.items in
    let next : suc k ≡ k + 1 = omega arith in
    subst (λ n. slice_get tables n ≡ Some b.shared.table.shared.table_id) next (mapped_at (λ b. b.shared.table.shared.table_id) c.args.blanks.items k b there)
