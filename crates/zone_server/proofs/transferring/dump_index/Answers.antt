use Rattle.std.proofs.Common.{rules, ◌∙◌, length, subst, sym}
use Rattle.zone_model.specs.Versions.{Version}
use Rattle.qp_multi.specs.Passes.{Known, known_at}
use Rattle.zone_server.specs.Transfers.{Dumps, IsDumped, transferred}
use Rattle.zone_server.proofs.ShowLaws.{query_last, query_shown, query_shows}
use Rattle.zone_server.proofs.TransferLaws.{dumps_by, version_told}
use Rattle.zone_server.proofs.transferring.dump_index.Goals as goal

pub dump_to-dumped-requires : goal.dump_to-dumped-requires
dump_to-dumped-requires g c = query_shows c.version-version.ensures.same c.query-held.ensures.pinned c.query-held.ensures.reads.holds

pub returns-clause-dumped : goal.returns-clause-dumped
returns-clause-dumped g c =
    let q = c.query-held.ensures in
    let same = c.version-version.ensures.same in
    let read = c.dump_to-dumped.ensures in
    let left = c.drop-held.ensures.left in
    let old = known_at c.args.pass.now.seat in
    let new = known_at c.drop-held.new.self.0.seat in
    let before = g.K.Sink.held c.args.sink.now in
    let after = g.K.Sink.held c.dump_to-dumped.new.sink in
    let r = transferred c.version-version.result c.dump_to-dumped.result in
    let dumps : Version → Type 0 = λ zone. Dumps c.args.style c.args.origin.now zone before after r in
    let last = query_last same q.pinned q.reads.holds read.same left in
    let facts : IsDumped dumps old new r = record {
      shown = query_shown same q.pinned q.reads.holds read.same left dumps (length new.seen.history) last
          (λ zone shows. dumps_by c.args.style c.args.origin.now zone before after c.version-version.result c.dump_to-dumped.result (read.count zone shows) (read.written.ok zone shows) (read.written.err zone shows));
      version = version_told c.version-version.result (length new.seen.history) c.dump_to-dumped.result (c.version-version.ensures.number ∙ sym last);
    } in
    let told = subst (λ x. IsDumped (λ zone. Dumps c.args.style c.args.origin.now zone before after x) old new x) (sym c.told.ensures) facts in
    -- the pass is back as the query left it
    subst (λ (v : Known). IsDumped (λ zone. Dumps c.args.style c.args.origin.now zone before after c.told.result) old v c.told.result) {x = new} (search rules) told
