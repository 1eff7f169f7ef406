use Rattle.std.proofs.Common.{rules, subst}
use Rattle.zone_model.specs.Versions.{Version}
use Rattle.qp_multi.specs.Passes.{Known, known_at}
use Rattle.zone_answer.specs.Responses.{respond}
use Rattle.zone_answer.specs.Sections.{IsResponded}
use Rattle.zone_server.specs.Replies.{HasGrown, IsShown}
use Rattle.zone_server.proofs.ShowLaws.{query_grown, query_shown, query_shows}
use Rattle.zone_server.proofs.responding.respond_index.Goals as goal

pub respond_into-requires-clause-shown : goal.respond_into-requires-clause-shown
respond_into-requires-clause-shown g c = query_shows c.version-version.ensures.same c.query-query.ensures.pinned c.query-query.ensures.reads.holds

-- the pass is back as the query left it

pub returns-in_err-told-clause-asks : goal.returns-in_err-told-clause-asks
returns-in_err-told-clause-asks g c = record {
  here = search rules;
  place = search rules;
  grows =
      subst (HasGrown (known_at c.args.pass.now.seat)) {x = known_at c.drop-query.new.self.0.seat} (search rules)
      (query_grown c.version-version.ensures.same c.query-query.ensures.pinned c.query-query.ensures.reads.holds c.respond_into.ensures.same c.drop-query.ensures.left);
}

pub returns-clause-asks : goal.returns-clause-asks
returns-clause-asks g c = record {
  here = search rules;
  place = search rules;
  grows =
      subst (HasGrown (known_at c.args.pass.now.seat)) {x = known_at c.drop-query-2.new.self.0.seat} (search rules)
      (query_grown c.version-version.ensures.same c.query-query.ensures.pinned c.query-query.ensures.reads.holds c.respond_into.ensures.same c.drop-query-2.ensures.left);
}

pub returns-clause-shown : goal.returns-clause-shown
returns-clause-shown g c =
    let tells : Version → Type 0 = λ zone. IsResponded (g.S.RowSink.has c.respond_into.new.rows.rows) (respond c.args.origin.now zone c.args.name.now c.args.rtype) c.in_ok-told.told in
    subst (λ (v : Known). IsShown tells (known_at c.args.pass.now.seat) v c.version-version.result) {x = known_at c.drop-query-2.new.self.0.seat} (search rules)
    (query_shown c.version-version.ensures.same c.query-query.ensures.pinned c.query-query.ensures.reads.holds c.respond_into.ensures.same c.drop-query-2.ensures.left tells c.version-version.result c.version-version.ensures.number
    c.in_ok-told.ensures.response)
