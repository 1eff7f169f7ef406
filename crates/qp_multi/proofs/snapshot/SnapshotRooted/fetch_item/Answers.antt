use Rattle.std.specs.Prelude.{slice_get}
use Rattle.qp_multi.specs.declared.snapshot.Snapshot.{Snapshot}
use Rattle.qp_multi.proofs.QueryLaws.{same_made}
use Rattle.qp_multi.proofs.snapshot.SnapshotRooted.fetch_item.Goals as goal

pub returns-clause-same : goal.returns-clause-same
returns-clause-same g c =
    let q = c.args.self.now in
    same_made {Q = Snapshot g.row.L.Denot g.row.N.Denot g.N.Named} q.shared.now.table.shared.table_id (slice_get g.N.Named.tables q.place) (λ s h k. record { seat = s; place = q.place; shared = q.shared; names = q.names; here = h; named = k })
    c.fetch_pinned.new.seat q.seat c.fetch_pinned.ensures.same _ _ q.here q.named
