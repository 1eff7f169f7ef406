use Rattle.std.proofs.Common.{◌∙◌, [], refl, sym, ap, subst, IfOk}
use Rattle.zone_answer.specs.Answers.{Answer, answer, step}
use Rattle.zone_answer.specs.Parts.{IsGiven, next_view}
use Rattle.zone_answer.specs.Standing.{Shows}
use Rattle.zone_answer.proofs.AnswerLaws.{at_first, ends, is_given, leads}
use Rattle.zone_answer.proofs.question.answer_under.Goals as goal

pub returns-in-Ends-clause-answer : goal.returns-in-Ends-clause-answer
returns-in-Ends-clause-answer g c zone shows =
    let whole = answer c.args.origin.now zone c.args.name.now c.args.rtype in
    let gives = c.in_ok-kind.ensures.gives zone shows in
    let rows = (step c.args.origin.now zone c.args.rtype c.args.name.now).rows in
    is_given (g.S.RowSink.has c.step.new.rows) whole c.in-Ends.kind rows (gives.1 [] c.requires.none)
    (ends whole 15 c.args.origin.now zone c.args.rtype c.args.name.now [] rows (at_first c.args.origin.now zone c.args.name.now c.args.rtype c.requires.under) c.requires.under refl
    c.in-Ends.kind (sym (ap (next_view c.step.new.walker.target) c.in-Ends.is) ∙ gives.0))

pub returns-clause-answer : goal.returns-clause-answer
returns-clause-answer g c zone shows =
    let whole = answer c.args.origin.now zone c.args.name.now c.args.rtype in
    let gives = c.in_ok-kind.ensures.gives zone shows in
    let rows = (step c.args.origin.now zone c.args.rtype c.args.name.now).rows in
    let now = subst (λ s. Shows (g.V.Reading.holds s) zone) (sym c.in_ok-kind.ensures.same) shows in
    let on = leads whole 15 c.args.origin.now zone c.args.rtype c.args.name.now [] rows (at_first c.args.origin.now zone c.args.name.now c.args.rtype c.requires.under) c.requires.under refl
    c.step.new.walker.target (sym (ap (next_view c.step.new.walker.target) c.in_default.is) ∙ gives.0) in
    subst (λ (a : Answer). IfOk c.follow.result (IsGiven (g.S.RowSink.has c.follow.new.rows) a)) (sym on) (c.follow.ensures.answer zone rows now (gives.1 [] c.requires.none))
