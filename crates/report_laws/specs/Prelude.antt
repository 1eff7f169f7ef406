-- The words that this crate's clauses cite, passed on from one place. Declares nothing.
pub use Rattle.std.specs.List.{AllByRecursion}
pub use Rattle.zone_model.specs.MasterFile.{zone_of}
pub use Rattle.zone_model.specs.Names.{IsName, Name}
pub use Rattle.zone_model.specs.Transactions.{Transaction, whole}
pub use Rattle.zone_model.specs.Versions.{Version}
pub use Rattle.master_file.specs.Rows.{CanBeDumped}
pub use Rattle.job_model.specs.Commands.{Command, FedJob, Job}
pub use Rattle.job_model.specs.Feeds.{FedPair}
pub use Rattle.job_model.specs.Jobs.{fed_job_of, job_of, list_of, script_of}
pub use Rattle.job_model.specs.Outcomes.{Pair}
pub use Rattle.job_model.specs.Summaries.{summary}
pub use Rattle.report_laws.specs.Apart.{AreApart, AreDone}
pub use Rattle.report_laws.specs.Changes.{AllAsked, AllSaid}
pub use Rattle.report_laws.specs.Octets.{AllOctets}
pub use Rattle.report_laws.specs.Reports.{IsReportOf}
pub use Rattle.report_laws.specs.Versions.{AreFedOutcomesOf, AreOutcomesOf, ReadsBack, fed_version_of, version_of}
