use Rattle.std.proofs.Common.{◌∙◌, ap, sym, subst, append-nil, ◌++◌, None, Some}
use Rattle.zone_model.specs.Records.{Entry}
use Rattle.zone_answer.specs.Answers.{Step, by_node}
use Rattle.zone_answer.specs.Parts.{Gives}
use Rattle.zone_answer.proofs.ReachLaws.{not_there}
use Rattle.zone_answer.proofs.StepLaws.{step_absent}
use Rattle.zone_answer.proofs.step.give_absent.Goals as goal

pub view-requires : goal.view-requires
view-requires g c = let n = c.in-Some.ensures.node c.requires.apart.0 c.requires.apart.1 in (n.0, n.2)

pub returns-in-Some-clause-gives : goal.returns-in-Some-clause-gives
returns-in-Some-clause-gives g c zone origin apart none =
    let n = c.in-Some.ensures.node zone apart in
    let seen = c.view.ensures n.0 n.2 in
    subst (λ (s : Step). Gives s (g.S.RowSink.has c.args.rows.now) (g.S.RowSink.has c.give.new.rows) c.give.new.target c.give.result)
    (ap (λ (e : Entry). by_node c.args.name.now c.args.rtype (Some e)) seen ∙ step_absent origin c.args.name.now zone c.args.rtype (Some n.0) none (not_there c.args.name.now zone c.args.place apart.parts) (sym n.1)) c.give.ensures

pub returns-in-None-clause-gives : goal.returns-in-None-clause-gives
returns-in-None-clause-gives g c zone origin apart none =
    let n = c.in-None.ensures.node zone apart in
    let is = step_absent origin c.args.name.now zone c.args.rtype None none (not_there c.args.name.now zone c.args.place apart.parts) (sym n) in
    (ap (λ (s : Step). s.next) is, λ rows had. subst (g.S.RowSink.has c.args.rows.now) (sym (append-nil rows) ∙ ap (λ (s : Step). rows ++ s.rows) is) had)
