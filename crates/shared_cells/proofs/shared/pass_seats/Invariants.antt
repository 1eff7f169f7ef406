use Rattle.std.proofs.Common.{◌≡◌, map, []}
use Rattle.std.specs.List.{All, range_with_len}
use Rattle.shared_cells.specs.Views.{unopened_view, pass_view}
use Rattle.shared_cells.proofs.shared.pass_seats.Given as goal

abbrev pub invariant-loop-number : goal.invariant-loop-number
invariant-loop-number g l = (l.place.table_id ≡ l.initial.place.table_id) × (l.place.me ≡ (unopened_view l.shared.table.shared.key l.number, []))
    × (map (λ seat. seat.place.me.0) l.seats.items ≡ map (λ number. pass_view number l.shared.table.shared.key.chunks) (range_with_len 0 l.number)) × All (λ seat. seat.place.table_id ≡ l.shared.table.shared.table_id) l.seats.items
