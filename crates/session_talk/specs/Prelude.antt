-- The words that this crate's clauses cite, passed on from one place. Declares nothing.
pub use Rattle.zone_model.specs.Names.{IsName, Name as Labels}
pub use Rattle.outer_io.specs.Bytes.{Held}
pub use Rattle.outer_io.specs.Faults.{Blames, BlamesEach, Rose}
pub use Rattle.job_model.specs.Commands.{Command, held_after}
pub use Rattle.job_model.specs.Sessions.{Session as State, first_session, session_line, session_lines}
pub use Rattle.job_script.specs.Views.{command_view}
pub use Rattle.session_lines.specs.Printing.{printing}
pub use Rattle.session_lines.specs.Taking.{NextIsShort}
pub use Rattle.session_lines.specs.Views.{said_view, session_view}
