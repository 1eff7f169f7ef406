-- The words that this crate's clauses cite, and those of the crates that run its commands in threads, passed on from one place. Declares nothing.
pub use Rattle.zone_model.specs.Dumps.{all_rows}
pub use Rattle.zone_answer.specs.Answers.{answer}
pub use Rattle.zone_answer.specs.Around.{find}
pub use Rattle.zone_answer.specs.Prelude.{Shows, ShowsSome, Version, most_item_octets}
pub use Rattle.zone_answer.specs.Responses.{respond}
pub use Rattle.job_model.specs.Outcomes.{Committed, Refused, Spent as NoNumber}
pub use Rattle.job_model.specs.Replies.{answer_text, found_text, reply_of, reply_text, response_text, size_text}
pub use Rattle.job_model.specs.Sizes.{node_count}
pub use Rattle.job_report.specs.Outcomes.{EndsBlock, EndsCompaction}
pub use Rattle.job_report.specs.Prelude.{ended_view, rows_text}
pub use Rattle.job_script.specs.Prelude.{NeedsNoSnapshot, command_view}
pub use Rattle.job_script.specs.Views.{asked_view}
pub use Rattle.report_laws.specs.Prelude.{AllAsked, AllSaid}
pub use Rattle.trie_write.specs.Entries.{entries_of_items}
pub use Rattle.qp_multi.specs.Closings.{AreAll}
pub use Rattle.qp_multi.specs.Passes.{Learnt}
pub use Rattle.qp_multi.specs.Prelude.{IsHere, first_version, known_at, versions_in}
pub use Rattle.zone_edit.specs.Blocks.{Edited}
pub use Rattle.zone_edit.specs.Prelude.{IsOfSame, WorksOnSome}
pub use Rattle.job_commands.specs.Alone.{MayRunAlone, MayTransact, RunsBlock, RunsByWeight, RunsCompaction, StepsAlone}
pub use Rattle.job_commands.specs.Calls.{AllHeard, AreHeard, IsHeard}
pub use Rattle.job_commands.specs.Commands.{Asked, BlockRan, BlockWants, CompactionRan, IsIndex, IsOpenedWith, OpensAt, Seat, StoppedBy, known_in, table_size}
pub use Rattle.job_commands.specs.Endings.{EndsRun, Measured}
pub use Rattle.job_commands.specs.Histories.{AreVersions, Entries, IsZone, OpenedWith, StandsAs}
pub use Rattle.job_commands.specs.Runs.{IsRun}
pub use Rattle.job_commands.specs.Sittings.{ComesTo, EndsAt, Sits, versions_by}
pub use Rattle.job_commands.specs.WorkerPasses.{IsHeld, IsPlaced, Pinned, holder_view, worker_passes}
pub use Rattle.job_commands.specs.Steps.{IsUnder, MovedAt, Step}
pub use Rattle.job_commands.specs.Weights.{RanAs, RanByWeight}
pub use Rattle.job_commands.specs.Works.{AreNew, Begins, IsNew, Numbers}
