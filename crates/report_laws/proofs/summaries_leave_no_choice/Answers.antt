use Rattle.report_laws.proofs.ApartLemmas.{one_summary}
use Rattle.report_laws.proofs.summaries_leave_no_choice.Goals as goal

pub returns : goal.returns
returns c = one_summary
