-- The words that this crate's clauses cite, passed on from one place. Declares nothing.
pub use Rattle.std.specs.List.{list_any}
pub use Rattle.zone_model.specs.DataWords.{data_type}
pub use Rattle.zone_model.specs.Lines.{lines_of}
pub use Rattle.zone_model.specs.MasterFile.{zone_of}
pub use Rattle.zone_model.specs.Names.{Name, is_under, same_name}
pub use Rattle.master_file.specs.Rows.{CanBeDumped}
pub use Rattle.zone_text.specs.Views.{Reads}
pub use Rattle.job_model.specs.Outcomes.{RolledBack}
pub use Rattle.job_report.specs.Outcomes.{EndsBlock, ended_view}
pub use Rattle.job_script.specs.Views.{asked_view}
pub use Rattle.report_laws.specs.Changes.{IsSaid}
pub use Rattle.shared_cells.specs.History.{IsPartOf}
pub use Rattle.zone_change.specs.Views.{operation_view}
pub use Rattle.zone_diff.specs.Blocks.{changes}
pub use Rattle.zone_diff.specs.Differences.{difference}
pub use Rattle.zone_diff.specs.declared.Serial.TheVariants.{Keep}
pub use Rattle.zone_answer.specs.Prelude.{answer, respond, IsGiven, IsResponded}
pub use Rattle.qp_multi.specs.Keepings.{versions_in}
pub use Rattle.qp_multi.specs.Passes.{IsHere, Known, known_at}
pub use Rattle.job_commands.specs.Commands.{IsOpenedWith}
pub use Rattle.job_commands.specs.Histories.{IsZone, OpenedWith, StandsAs}
pub use Rattle.zone_table.specs.Openings.{entries_in, sizes_of}
pub use Rattle.zone_server.specs.Asks.{Needs, Takes, adds}
pub use Rattle.zone_server.specs.Attachings.{Attached, Detached, attach_told}
pub use Rattle.zone_server.specs.Builds.{AddsZone, OpensFor}
pub use Rattle.zone_server.specs.Changes.{Changes, NoneHas, Ran, RunsIn, WantsIn, ended_of}
pub use Rattle.zone_server.specs.Homes.{Served}
pub use Rattle.zone_server.specs.Loadings.{Loads}
pub use Rattle.zone_server.specs.Notes.{HasLearnt, IsNote, Tells, told_of}
pub use Rattle.zone_server.specs.Openings.{IsOpening, OpeningView, origin_in, served_of}
pub use Rattle.zone_server.specs.Passes.{AreServing, CanExchange, CanReload, CanRunIn, HasAsked, StaysServing}
pub use Rattle.zone_server.specs.Reloads.{NoRule, RanOn, Reloading, Reloads, StopsReload, commit_told}
pub use Rattle.zone_server.specs.Replies.{IsAfter, IsFrom, IsReply, IsShown, IsTold, reply_map}
pub use Rattle.zone_server.specs.Servings.{IsServed, IsServing, ServerKnown, known_of, of_zone}
pub use Rattle.zone_server.specs.Updates.{IsUpdate, UpdateView}
pub use Rattle.zone_server.specs.Transfers.{IsDumpedTo, Transfers, transfer_told, transferred}
pub use Rattle.zone_server.specs.Wire.{wire_row, wire_rows}
