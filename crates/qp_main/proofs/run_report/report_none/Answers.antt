use Rattle.std.proofs.Common.{rules, List, [], map, subst}
use Rattle.job_report.specs.Pieces.{pieces_text}
use Rattle.job_script.specs.Views.{worker_view}
use Rattle.job_script.specs.declared.commands.Worker.{Worker}
use Rattle.job_threads.specs.Zones.{RanOn}
use Rattle.job_threads.specs.declared.zone.Ran.TheVariants as ran
use Rattle.qp_main.proofs.ReportingLemmas.{none_told}
use Rattle.qp_main.proofs.run_report.report_none.Goals as goal

pub returns-in-Finished : goal.returns-in-Finished
returns-in-Finished g c = λ zone workers stands.
    let i = c.args.invocation.now in
    let told : RanOn c.args.blank.shared.table.shared.key.chunks i.origin zone (map worker_view c.new.result.items) (ran.Finished c.in-Finished.finished) = search (rules, c.in_ok-finished.ensures.ran zone stands) in
    let r = subst (λ (l : List Worker). RanOn c.args.blank.shared.table.shared.key.chunks i.origin zone (map worker_view l) (ran.Finished c.in-Finished.finished)) c.new.ensures.items told in
    none_told workers i.chunks i.origin zone c.in-Finished.finished (pieces_text c.in_ok-text-in-Finished.text) (subst (λ n. RanOn n i.origin zone [] (ran.Finished c.in-Finished.finished)) c.requires.chunks r) (search (rules, c.in_ok-text-in-Finished.ensures))
