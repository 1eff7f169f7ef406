use Rattle.std.proofs.Common.{rules, subst}
use Rattle.zone_model.specs.Versions.{Version}
use Rattle.qp_multi.specs.Passes.{Known, known_at}
use Rattle.zone_answer.specs.Answers.{answer}
use Rattle.zone_answer.specs.Parts.{IsGiven}
use Rattle.zone_server.specs.Replies.{HasGrown, IsShown}
use Rattle.zone_server.proofs.ShowLaws.{query_grown, query_shown, query_shows}
use Rattle.zone_server.proofs.asking.ask_index.Goals as goal

pub answer_under-requires-clause-shown : goal.answer_under-requires-clause-shown
answer_under-requires-clause-shown g c = query_shows c.version-version.ensures.same c.query-query.ensures.pinned c.query-query.ensures.reads.holds

-- the pass is back as the query left it

pub returns-in_err-told-clause-asks : goal.returns-in_err-told-clause-asks
returns-in_err-told-clause-asks g c = record {
  here = search rules;
  place = search rules;
  grows =
      subst (HasGrown (known_at c.args.pass.now.seat)) {x = known_at c.drop-query.new.self.0.seat} (search rules)
      (query_grown c.version-version.ensures.same c.query-query.ensures.pinned c.query-query.ensures.reads.holds c.answer_under.ensures.same c.drop-query.ensures.left);
}

pub returns-clause-asks : goal.returns-clause-asks
returns-clause-asks g c = record {
  here = search rules;
  place = search rules;
  grows =
      subst (HasGrown (known_at c.args.pass.now.seat)) {x = known_at c.drop-query-2.new.self.0.seat} (search rules)
      (query_grown c.version-version.ensures.same c.query-query.ensures.pinned c.query-query.ensures.reads.holds c.answer_under.ensures.same c.drop-query-2.ensures.left);
}

pub returns-clause-shown : goal.returns-clause-shown
returns-clause-shown g c =
    let tells : Version → Type 0 = λ zone. IsGiven (g.S.RowSink.has c.answer_under.new.rows) (answer c.args.origin.now zone c.args.name.now c.args.rtype) c.in_ok-told.told in
    subst (λ (v : Known). IsShown tells (known_at c.args.pass.now.seat) v c.version-version.result) {x = known_at c.drop-query-2.new.self.0.seat} (search rules)
    (query_shown c.version-version.ensures.same c.query-query.ensures.pinned c.query-query.ensures.reads.holds c.answer_under.ensures.same c.drop-query-2.ensures.left tells c.version-version.result c.version-version.ensures.number
    c.in_ok-told.ensures.answer)
