use Rattle.std.proofs.Common.{rules, ◌≡◌, IfOk, map, subst}
use Rattle.std.proofs.lemmas.Result.{IfOk-weaker}
use Rattle.zone_model.specs.Versions.{Version}
use Rattle.qp_multi.specs.Passes.{Known, known_at}
use Rattle.zone_change.specs.Views.{operation_view}
use Rattle.zone_diff.specs.Differences.{difference}
use Rattle.zone_diff.specs.declared.Serial.TheVariants.{Keep}
use Rattle.zone_server.specs.Replies.{IsShown}
use Rattle.zone_server.proofs.ShowLaws.{query_shown, query_shows}
use Rattle.zone_server.proofs.reloading.difference_of.Goals as goal

pub operations_between-told-requires : goal.operations_between-told-requires
operations_between-told-requires g c = query_shows c.version-version.ensures.same c.query-query.ensures.pinned c.query-query.ensures.reads.holds

pub returns-clause-shown : goal.returns-clause-shown
returns-clause-shown g c =
    let tells : Version → Type 0 = λ before. IfOk c.operations_between-told.result (λ list. map operation_view list.items ≡ difference Keep before c.args.zone.now.pairs) in
    -- the pass is back as the query left it
    subst (λ (v : Known). IsShown tells (known_at c.args.pass.now.seat) v c.version-version.result) {x = known_at c.drop-query.new.self.0.seat} (search rules)
    (query_shown c.version-version.ensures.same c.query-query.ensures.pinned c.query-query.ensures.reads.holds c.operations_between-told.ensures.same c.drop-query.ensures.left tells c.version-version.result c.version-version.ensures.number
    (λ before shows. IfOk-weaker c.operations_between-told.result _ _ (λ list is. is before shows) c.operations_between-told.ensures.list))
