use Rattle.std.proofs.Common.{◌∙◌}
use Rattle.job_script.specs.Views.{job_view}
use Rattle.job_report.proofs.ReportLemmas.{if_ok, reported}
use Rattle.job_report.proofs.report.print_report.Goals as goal

pub returns : goal.returns
returns c =
    if_ok c.print_outcomes.result
    (λ text e. e ∙ reported c.args._zone.now.origin c.args._zone.now.pairs (job_view c.args._job.now) c.args.outcomes.items c.args.version c.args.names c.requires.tell c.requires.names) c.print_outcomes.ensures
