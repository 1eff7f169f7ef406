use Rattle.std.proofs.Common.{◌∙◌, List, ap}
use Rattle.std.specs.Prelude.{slice_get}
use Rattle.trie_model.specs.Keys.{Entry}
use Rattle.shared_cells.specs.declared.cells.PinnedCells.{PinnedCells}
use Rattle.qp_multi.specs.declared.meaning.Operation.{Operation}
use Rattle.qp_multi.specs.declared.snapshot.Snapshot.{Snapshot}
use Rattle.qp_multi.proofs.QueryLaws.{pinned_cell, same_made}
use Rattle.qp_multi.proofs.snapshot.SnapshotCellRead.cell.Goals as goal

pub returns-clause-same : goal.returns-clause-same
returns-clause-same g c =
    let q = c.args.self.now in
    same_made {Q = Snapshot g.row.L.Denot g.row.N.Denot g.N.Named} q.shared.now.table.shared.table_id (slice_get g.N.Named.tables q.place) (λ s h k. record { seat = s; place = q.place; shared = q.shared; names = q.names; here = h; named = k })
    c.cell.new.self.seat.now q.seat (ap (λ (p : PinnedCells (List Entry) (List Operation) _). p.seat.now) c.cell.ensures.same ∙ c.new.ensures.seat) _ _ q.here q.named

pub cell-requires : goal.cell-requires
cell-requires g c = let cell = c.requires.there in record { there = (cell.0, pinned_cell _ _ c.new.ensures.seat c.args.at cell.0 cell.1) }

pub returns-clause-value : goal.returns-clause-value
returns-clause-value g c x h = c.cell.ensures.value x (pinned_cell _ _ c.new.ensures.seat c.args.at x h)
