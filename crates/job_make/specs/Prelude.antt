-- The words that this crate's clauses cite, passed on from one place. Declares nothing.
pub use Rattle.std.specs.List.{flat_map}
pub use Rattle.job_model.specs.Commands.{Job}
pub use Rattle.job_model.specs.Jobs.{job_of}
pub use Rattle.job_model.specs.Loads.{Load, address_text, first_lines, line_text, made_origin, made_text, name_text, names_lines}
pub use Rattle.job_model.specs.Loads.{share, state_after, turn_lines, turn_of, turns_from, worker_lines, worker_state, workers_from}
pub use Rattle.job_model.specs.Outcomes.{Pair}
pub use Rattle.job_model.specs.Summaries.{summary}
pub use Rattle.report_laws.specs.Apart.{AreDone}
pub use Rattle.job_make.specs.Views.{load_view, part_view}
