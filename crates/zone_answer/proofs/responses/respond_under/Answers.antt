use Rattle.std.proofs.Common.{◌≡◌, ◌∙◌, [], sym, subst, IfOk}
use Rattle.zone_answer.specs.Answers.{answer}
use Rattle.zone_answer.specs.Responses.{by_kind}
use Rattle.zone_answer.specs.Sections.{IsResponded}
use Rattle.zone_answer.specs.Standing.{Shows}
use Rattle.zone_answer.specs.declared.kind.Kind.{Kind}
use Rattle.zone_answer.specs.declared.kind.Kind.TheVariants.{Answered, Nodata, Nxdomain, Referral, Outside}
use Rattle.zone_answer.proofs.HeaderLaws.{says_refused}
use Rattle.zone_answer.proofs.ResponseLaws.{EndsAs, answer_ends}
use Rattle.zone_answer.proofs.responses.respond_under.Goals as goal

pub returns-in-Answered-clause-response : goal.returns-in-Answered-clause-response
returns-in-Answered-clause-response g c zone shows =
    let a = answer c.args.origin.now zone c.args.name.now c.args.rtype in
    let given = c.in_ok-kind.ensures.answer zone shows in
    let kind : a.kind ≡ Answered = sym given.kind_is ∙ c.in-Answered.is in
    let now = subst (λ s. Shows (g.V.Reading.holds s) zone) (sym c.in_ok-kind.ensures.same) shows in
    let ends = subst (λ (k : Kind). EndsAs zone c.args.rtype k a.rows) kind (answer_ends c.args.origin.now zone c.args.name.now c.args.rtype) in
    subst (λ (k : Kind). IfOk c.answered.result (IsResponded (g.S.RowSink.has c.answered.new.rows.rows) (by_kind c.args.origin.now zone k a.rows))) (sym kind) (c.answered.ensures.response zone a.rows now ends given.rows)

pub returns-in-Referral-clause-response : goal.returns-in-Referral-clause-response
returns-in-Referral-clause-response g c zone shows =
    let a = answer c.args.origin.now zone c.args.name.now c.args.rtype in
    let given = c.in_ok-kind.ensures.answer zone shows in
    let kind : a.kind ≡ Referral = sym given.kind_is ∙ c.in-Referral.is in
    let now = subst (λ s. Shows (g.V.Reading.holds s) zone) (sym c.in_ok-kind.ensures.same) shows in
    let ends = subst (λ (k : Kind). EndsAs zone c.args.rtype k a.rows) kind (answer_ends c.args.origin.now zone c.args.name.now c.args.rtype) in
    subst (λ (k : Kind). IfOk c.referred.result (IsResponded (g.S.RowSink.has c.referred.new.rows.rows) (by_kind c.args.origin.now zone k a.rows))) (sym kind) (c.referred.ensures.response zone a.rows now ends given.rows)

pub returns-in-Nodata-clause-response : goal.returns-in-Nodata-clause-response
returns-in-Nodata-clause-response g c zone shows =
    let a = answer c.args.origin.now zone c.args.name.now c.args.rtype in
    let given = c.in_ok-kind.ensures.answer zone shows in
    let kind : a.kind ≡ Nodata = sym given.kind_is ∙ c.in-Nodata.is in
    let now = subst (λ s. Shows (g.V.Reading.holds s) zone) (sym c.in_ok-kind.ensures.same) shows in
    subst (λ (k : Kind). IfOk c.denied.result (IsResponded (g.S.RowSink.has c.denied.new.rows.rows) (by_kind c.args.origin.now zone k a.rows))) (sym kind) (c.denied.ensures.response zone a.rows now given.rows)

pub returns-in-Nxdomain-clause-response : goal.returns-in-Nxdomain-clause-response
returns-in-Nxdomain-clause-response g c zone shows =
    let a = answer c.args.origin.now zone c.args.name.now c.args.rtype in
    let given = c.in_ok-kind.ensures.answer zone shows in
    let kind : a.kind ≡ Nxdomain = sym given.kind_is ∙ c.in-Nxdomain.is in
    let now = subst (λ s. Shows (g.V.Reading.holds s) zone) (sym c.in_ok-kind.ensures.same) shows in
    subst (λ (k : Kind). IfOk c.denied-in-Nxdomain.result (IsResponded (g.S.RowSink.has c.denied-in-Nxdomain.new.rows.rows) (by_kind c.args.origin.now zone k a.rows))) (sym kind) (c.denied-in-Nxdomain.ensures.response zone a.rows now given.rows)

pub returns-in-Outside-clause-response : goal.returns-in-Outside-clause-response
returns-in-Outside-clause-response g c zone shows =
    let a = answer c.args.origin.now zone c.args.name.now c.args.rtype in
    let given = c.in_ok-kind.ensures.answer zone shows in
    let kind : a.kind ≡ Outside = sym given.kind_is ∙ c.in-Outside.is in
    let none : a.rows ≡ [] = subst (λ (k : Kind). EndsAs zone c.args.rtype k a.rows) kind (answer_ends c.args.origin.now zone c.args.name.now c.args.rtype) in
    let has = g.S.RowSink.has c.answer_under.new.rows.rows in
    subst (λ (k : Kind). IsResponded has (by_kind c.args.origin.now zone k a.rows) c.refused.result) (sym kind) (says_refused has c.args.origin.now zone a.rows c.refused.result c.refused.ensures (subst has none given.rows.handed_on))
