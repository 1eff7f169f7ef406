use Rattle.std.proofs.Common.{◌≡◌, sym, ap, ◌∙◌, subst, MutBor}
use Rattle.std.proofs.Props.{props}
use Rattle.atomic_table.specs.Seated.{TableId}
use Rattle.shared_cells.specs.declared.pinned.PinnedSeat.{PinnedSeat}
use Rattle.shared_cells.specs.declared.cells.PinnedCells.{PinnedCells}
use Rattle.shared_cells.proofs.cells.PinnedCellsCellRead.cell.Goals as goal

one_table : (z w : TableId) (h h' : z ≡ w) → h ≡ h'
one_table z w = let p : IsProp (z ≡ w) = hlevel props in p

-- cells whose seat is as it was are as they were
same_cells : {O E L : Type 0} (s : PinnedCells O E L) (seat : MutBor (PinnedSeat O E)) → s.seat ≡ seat → (h : seat.now.place.table_id ≡ s.shared.now.table.shared.table_id)
    → ◌≡◌ {A = PinnedCells O E L} (record { shared = s.shared; seat = seat; here = h }) s
same_cells {O} {E} {L} s seat e = subst (λ (t : MutBor (PinnedSeat O E)). (h : t.now.place.table_id ≡ s.shared.now.table.shared.table_id) → ◌≡◌ {A = PinnedCells O E L} (record { shared = s.shared; seat = t; here = h }) s) e
    (λ h. ap (λ (x : s.seat.now.place.table_id ≡ s.shared.now.table.shared.table_id). let y : PinnedCells O E L = record { shared = s.shared; seat = s.seat; here = x } in y) (one_table s.seat.now.place.table_id s.shared.now.table.shared.table_id h s.here))

pub returns-clause-same : goal.returns-clause-same
returns-clause-same g c =
    let s = c.args.self.now in
    same_cells s _ (ap (λ (x : PinnedSeat g.row.O.Denot g.row.E.Denot). record s.seat { now = x }) (sym (c.read-2.ensures.same ∙ c.read.ensures.same))) _
