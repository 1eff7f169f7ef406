use Rattle.report_laws.proofs.ReportLemmas.{one_report}
use Rattle.report_laws.proofs.reports_leave_no_doubt.Goals as goal

pub returns : goal.returns
returns c = one_report
