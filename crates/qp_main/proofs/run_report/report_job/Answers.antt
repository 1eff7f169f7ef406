use Rattle.std.proofs.Common.{List, ap, rules, ◌∙◌}
use Rattle.std.specs.List.{list_any}
use Rattle.job_model.specs.Outcomes.{is_refused}
use Rattle.job_report.specs.Outcomes.{ended_view}
use Rattle.job_report.specs.Pieces.{pieces_text}
use Rattle.job_script.specs.Views.{job_view}
use Rattle.job_report.specs.declared.outcomes.Outcome.{Outcome}
use Rattle.job_report.specs.declared.outcomes.Outcomes.{Outcomes}
use Rattle.job_threads.specs.Zones.{HeardOn}
use Rattle.job_threads.specs.declared.zone.Ran.TheVariants as ran
use Rattle.qp_main.proofs.ReportingLemmas.{job_told}
use Rattle.qp_main.proofs.run_report.report_job.Goals as goal

pub returns-in_ok-text-in-Finished-clause-told : goal.returns-in_ok-text-in-Finished-clause-told
returns-in_ok-text-in-Finished-clause-told g c = λ zone stands dumped.
    let i = c.args.invocation.now in
    job_told c.args.telling i.chunks i.origin zone (job_view c.args.job.now) c.in-Finished.finished (pieces_text c.in_ok-text-in-Finished.text) c.any_refused-refused.result c.status_of.result (search (rules, c.in_ok-finished.ensures.ran zone stands))
    c.in_ok-text-in-Finished.ensures
    (c.any_refused-refused.ensures ∙ ap (λ (l : List Outcomes). list_any (λ (w : Outcomes). list_any (λ (o : Outcome). is_refused (ended_view o.told)) w.list.items) l) c.deref.ensures.value)
    c.status_of.ensures (record { zone = dumped; workers = c.requires.can.said })

pub returns-in_ok-text-in-Finished-clause-heard : goal.returns-in_ok-text-in-Finished-clause-heard
returns-in_ok-text-in-Finished-clause-heard g c = λ has_run.
    let told : HeardOn (g.G.Gate.hears c.args.gate.now) (job_view c.args.job.now) (ran.Finished c.in-Finished.finished) = search (rules, c.in_ok-finished.ensures.heard) in told
