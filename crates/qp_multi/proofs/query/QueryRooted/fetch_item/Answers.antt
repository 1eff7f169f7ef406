use Rattle.std.specs.Prelude.{slice_get}
use Rattle.qp_multi.specs.declared.query.Query.{Query}
use Rattle.qp_multi.proofs.QueryLaws.{same_made}
use Rattle.qp_multi.proofs.query.QueryRooted.fetch_item.Goals as goal

pub returns-clause-same : goal.returns-clause-same
returns-clause-same g c =
    let q = c.args.self.now in
    same_made {Q = Query g.row.L.Denot g.row.N.Denot g.N.Named} q.shared.now.table.shared.table_id (slice_get g.N.Named.tables q.place) (λ s h k. record { home = q.home; seat = s; place = q.place; shared = q.shared; here = h; named = k })
    c.fetch_pinned.new.seat q.seat c.fetch_pinned.ensures.same _ _ q.here q.named
