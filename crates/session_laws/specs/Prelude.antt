-- The words that this crate's clauses cite, passed on from one place. Declares nothing.
pub use Rattle.zone_model.specs.Names.{Name}
pub use Rattle.zone_model.specs.Versions.{Version}
pub use Rattle.job_model.specs.Commands.{Command, FedJob}
pub use Rattle.job_model.specs.Jobs.{list_of}
pub use Rattle.job_model.specs.Sessions.{Answered, Ended, Replied, Reply, Runs, Said, all_said, first_session, ready_text, session_lines, session_text}
pub use Rattle.session_laws.specs.Feeds.{IsFeedOf}
pub use Rattle.session_laws.specs.Fronts.{BeginsAnswered}
