use Rattle.std.proofs.Common.{◌∙◌, sym, subst}
use Rattle.zone_answer.specs.Answers.{Step}
use Rattle.zone_answer.specs.Parts.{Gives}
use Rattle.zone_answer.proofs.StepLaws.{step_own, step_own_cut}
use Rattle.zone_answer.proofs.step.give_own.Goals as goal

pub returns-then-is_cut : goal.returns-then-is_cut
returns-then-is_cut g c = λ zone none own there.
    let cut = sym (c.is_cut.ensures zone own) ∙ c.if-is_cut.true in
    subst (λ (s : Step). Gives s (g.S.RowSink.has c.args.rows.now) (g.S.RowSink.has c.refer.new.rows) c.args.target.now c.refer.result) (step_own_cut c.args.origin.now c.args.name.now zone c.args.rtype c.args.entry.now none cut own) (c.refer.ensures c.args.target.now)

pub returns : goal.returns
returns g c = λ zone none own there.
    let cut = sym (c.is_cut.ensures zone own) ∙ c.if-is_cut.false in
    subst (λ (s : Step). Gives s (g.S.RowSink.has c.args.rows.now) (g.S.RowSink.has c.give.new.rows) c.give.new.target c.give.result) (step_own c.args.origin.now c.args.name.now zone c.args.rtype c.args.entry.now none cut there own) c.give.ensures
