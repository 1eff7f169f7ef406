use Rattle.std.proofs.Common.{◌≡◌, ◌∙◌, [], cond, ap, subst, sym}
use Rattle.zone_answer.specs.Answers.{Answer, answer, followed, most_aliases}
use Rattle.zone_answer.specs.Responses.{by_kind}
use Rattle.zone_answer.specs.Sections.{IsResponded}
use Rattle.zone_answer.specs.declared.kind.Kind.TheVariants.{Outside}
use Rattle.zone_answer.proofs.HeaderLaws.{says_refused}
use Rattle.zone_answer.proofs.responses.respond_into.Goals as goal

pub returns-then-not-is_under-clause-response : goal.returns-then-not-is_under-clause-response
returns-then-not-is_under-clause-response g c zone shows =
    let origin = c.args.origin.now in
    let nothing : Answer = record { kind = Outside; rows = [] } in
    let none : answer origin zone c.args.name.now c.args.rtype ≡ nothing = ap (λ b. cond b (followed most_aliases origin zone c.args.rtype c.args.name.now) nothing) (sym c.is_under.ensures ∙ c.if-not-is_under.true) in
    let has = g.S.RowSink.has c.args.rows.now.rows in
    subst (λ (a : Answer). IsResponded has (by_kind origin zone a.kind a.rows) c.refused.result) (sym none) (says_refused has origin zone [] c.refused.result c.refused.ensures c.requires.none)
