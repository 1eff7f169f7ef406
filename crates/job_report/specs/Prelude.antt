-- The words that this crate's clauses cite, passed on from one place. Declares nothing.
pub use Rattle.std.specs.List.{flat_map, list_any}
pub use Rattle.zone_model.specs.Rows.{Row, row_text, rows_of}
pub use Rattle.zone_answer.specs.Responses.{Response}
pub use Rattle.zone_answer.specs.Sections.{IsResponded}
pub use Rattle.job_model.specs.Outcomes.{asked_by, is_committed, is_refused}
pub use Rattle.job_model.specs.Replies.{answer_text, count_text, kind_text, rows_text}
pub use Rattle.job_model.specs.Reports.{cause_text, end_text, ended_text, head_text, rule_text}
pub use Rattle.job_model.specs.Summaries.{counts_text, sized_end_text}
pub use Rattle.job_report.specs.Outcomes.{cause_view, ended_view, outcome_text, told_text}
pub use Rattle.job_report.specs.Printed.{HasPrinted}
pub use Rattle.job_report.specs.Summaries.{AllTallied, Tallied, all_refused_lines, refused_lines, summary_text}
