-- What is told of a run.
use Rattle.std.specs.Prelude.{ℕ, List, ◌++◌}
use Rattle.zone_model.specs.Names.{Name}
use Rattle.zone_model.specs.Versions.{Version}
use Rattle.job_model.specs.Outcomes.{Pair}
use Rattle.job_model.specs.Reports.{end_text, report}
use Rattle.job_model.specs.Summaries.{summary}
use Rattle.job_report.specs.Outcomes.{all_text}
use Rattle.job_report.specs.Summaries.{summary_text}
use Rattle.job_threads.specs.declared.job.Finished.{Finished}
use Rattle.qp_main.specs.declared.run_report.Telling.{Telling}
use Rattle.qp_main.specs.declared.run_report.Telling.TheVariants.{Report, Summary}

-- the whole text for an origin, a zone, the workers' commands with their outcomes, and the last version
abbrev pub told_text : Telling → Name → Version → List (List Pair) → ℕ → List ℕ
told_text Report origin zone workers last = report origin zone workers last
told_text Summary origin zone workers last = summary origin zone workers last

-- what is printed of a job that was run
abbrev pub finished_text : Telling → Finished → List ℕ
finished_text Report f = all_text 1 f.outcomes.items ++ end_text f.version f.names
finished_text Summary f = summary_text f.outcomes.items f.version f.names f.nodes
