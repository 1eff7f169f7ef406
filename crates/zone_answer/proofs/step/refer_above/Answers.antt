use Rattle.std.proofs.Common.{◌∙◌, ap, subst, sym}
use Rattle.zone_answer.specs.Answers.{Step}
use Rattle.zone_answer.specs.Parts.{Gives, IsHeld, held_at}
use Rattle.zone_answer.specs.declared.records.Held.{Held}
use Rattle.zone_answer.proofs.StepLaws.{referred}
use Rattle.zone_answer.proofs.step.refer_above.Goals as goal

pub returns : goal.returns
returns g c = λ target entry there.
    let seen = c.view.ensures entry (subst (λ (h : Held). IsHeld c.args.item.now h entry) (sym c.held-held.ensures) there) in
    subst (λ (s : Step). Gives s (g.S.RowSink.has c.args.rows.now) (g.S.RowSink.has c.refer.new.rows) target c.refer.result)
    (ap (λ (h : Held). referred h.name c.view.result) c.held-held.ensures ∙ ap (referred (held_at c.args.name.now c.args.cut).name) seen) (c.refer.ensures target)
