use Rattle.std.proofs.Common.{rules, ◌∙◌, refl, sym, ap, subst}
use Rattle.shared_cells.specs.declared.view.Progress.TheVariants as progress
use Rattle.shared_cells.specs.Views.{with_progress, pinned_image}
use Rattle.qp_multi.specs.Meanings.{Holds}
use Rattle.qp_multi.specs.Passes.{Known, known_at}
use Rattle.zone_answer.specs.Standing.{Shows, ShowsSome}
use Rattle.job_report.specs.declared.outcomes.Told.TheVariants as told
use Rattle.job_report.specs.declared.outcomes.Outcome.{Outcome}
use Rattle.job_commands.specs.Commands.{Asked}
use Rattle.job_commands.proofs.ShowLaws.{shown, shown_some, asked_of}
use Rattle.job_commands.specs.Histories.{IsLawful}
use Rattle.job_commands.proofs.asking.run_question.Goals as goal

pub reply_text-requires : goal.reply_text-requires
reply_text-requires g c =
    subst (λ q. ShowsSome (Holds (pinned_image q.seat.place.me.0.progress) q.seat.root)) (sym c.version-version.ensures.same)
    (shown_some _ _ _ _ c.query-query.ensures.reads.holds c.query-query.ensures.pinned.good)

pub returns-clause-asked : goal.returns-clause-asked
returns-clause-asked g c =
    let q = c.query-query.ensures in
    let o : Outcome = record { version = c.version-version.result; told = told.Reply c.in_ok-text.text } in
    -- the pass is back as the query left it
    subst (λ (v : Known). Asked c.args.origin.now c.args.question.now (known_at c.args.pass.now.seat) v o) (search rules)
    (asked_of IsLawful c.args.origin.now c.args.question.now (known_at c.args.pass.now.seat) c.query-query.result.seat.place.me.0 (known_at c.drop-query-2.new.self.0.seat) c.query-query.result.seat.version o
    q.pinned (c.drop-query-2.ensures.left ∙ ap (λ x. with_progress x.seat.place.me.0 progress.Idle) (c.reply_text.ensures.same ∙ c.version-version.ensures.same)) c.version-version.ensures.number refl
    (λ zone stands. c.in_ok-text.ensures.reply zone
    (subst (λ x. Shows (Holds (pinned_image x.seat.place.me.0.progress) x.seat.root) zone) (sym c.version-version.ensures.same) (shown _ _ _ zone q.reads.holds stands))))
