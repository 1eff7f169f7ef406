-- The words that this crate's clauses cite, passed on from one place. Declares nothing.
pub use Rattle.std.specs.Option.{is_some, option_map}
pub use Rattle.outer_io.specs.Faults.{Blames}
pub use Rattle.zone_model.specs.Lines.{lines_of}
pub use Rattle.zone_text.specs.Tokens.{IsPlaced, token_view}
pub use Rattle.job_model.specs.Commands.{Command as Asked}
pub use Rattle.job_model.specs.Reports.{end_text}
pub use Rattle.job_model.specs.Sessions.{Session as State}
pub use Rattle.job_model.specs.Sessions.{completed, held_by, ends_block, first_session, given_up_text, is_last_word, left_open, passed_over, ready_text, refused_in, refused_line_text, script_at, script_kind_text, session_line, went_on}
pub use Rattle.job_report.specs.Outcomes.{outcome_text}
pub use Rattle.job_script.specs.Scripts.{script_view}
pub use Rattle.job_script.specs.Views.{command_view}
pub use Rattle.session_lines.specs.Taking.{IsUnbroken, NextIsShort, line_end}
