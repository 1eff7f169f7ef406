-- The words that this crate's clauses cite, passed on from one place. Declares nothing.
pub use Rattle.std.specs.Io.KnownBytes.{Consumes}
pub use Rattle.std.specs.List.{AllByRecursion, flat_map}
pub use Rattle.zone_model.specs.Records.{item_limit}
pub use Rattle.zone_text.specs.Views.{Reads}
pub use Rattle.zone_dump.specs.Prelude.{Grows, GrowsByFront, Rose}
pub use Rattle.zone_list.specs.Lists.{zones_of}
pub use Rattle.zone_list.specs.Parts.{AreListed}
pub use Rattle.trie_model.specs.Keys.{Rises}
pub use Rattle.job_model.specs.Commands.{Job as WholeJob}
pub use Rattle.job_model.specs.Feeds.{passes_fed}
pub use Rattle.job_model.specs.Outcomes.{passes_for}
pub use Rattle.job_model.specs.Replies.{size_text}
pub use Rattle.job_model.specs.Sessions.{script_kind_text}
pub use Rattle.job_model.specs.Sizes.{trie_entries}
pub use Rattle.job_script.specs.Prelude.{InTurn, NeedsNoSnapshot, Says, job_view, lines_of, list_view}
pub use Rattle.job_script.specs.Prelude.{script_lines, script_start, zone_lines}
pub use Rattle.zones_model.specs.Commands.{origins_of}
pub use Rattle.zones_script.specs.Jobs.{zones_job_of}
pub use Rattle.zones_script.specs.Views.{workers_view}
pub use Rattle.report_laws.specs.Prelude.{AllAsked, CanBeDumped, IsName, Version, fed_job_of, job_of, list_of, script_of, zone_of}
pub use Rattle.job_report.specs.Pieces.{pieces_text}
pub use Rattle.command_line.specs.Invocations.{IsUnder, Make}
pub use Rattle.command_line.specs.Prelude.{invocation_view, load_view, made_origin, verb_view}
pub use Rattle.trie_write.specs.Entries.{entries_of_items}
pub use Rattle.trie_size.specs.Sizes.{IsSizeOf}
pub use Rattle.job_commands.specs.Calls.{AllHeard}
pub use Rattle.job_commands.specs.Histories.{IsZone}
pub use Rattle.job_threads.specs.Ready.{CanRunOn}
pub use Rattle.zones_threads.specs.Sites.{IsSaid}
pub use Rattle.qp_main.specs.Due.{Answers, Checks, CutShort, Differs, Due, DueUnder, Dumps, EndsLoad, FedAnswers, GaveFor, IsAnswerDue, IsMade, IsUnwritten}
pub use Rattle.qp_main.specs.Due.{IsWritten, MayBeShort, RefusesScript, Sized, Sizes, Written, ZonesAnswers, input_of}
pub use Rattle.qp_main.specs.Due.{is_streamed, refusal_text, streams, zone_kind_text}
pub use Rattle.qp_main.specs.Faults.{TellsSink, TellsSource}
pub use Rattle.qp_main.specs.Heard.{FedJobHeard, HasRun, Heard, HeardInput, JobHeard, ListHeard, WhereRun, ZonesJobHeard}
pub use Rattle.qp_main.specs.Due.{AnswersLines, IsSession}
pub use Rattle.qp_main.specs.Sessions.{SaysSession, SessionRan}
pub use Rattle.qp_main.specs.Invocations.{DueFor, invocation_in}
pub use Rattle.qp_main.specs.Jobs.{fed_job_on, job_on, zones_job_on}
pub use Rattle.qp_main.specs.Needs.{AreNeedsOf, chunks_text, needs_text}
pub use Rattle.qp_main.specs.Opens.{AreAllItems, AreItemsOf, CanBeHandedOut, CanHaveTables}
pub use Rattle.qp_main.specs.Saids.{IsRead, second_said, zone_said}
pub use Rattle.qp_main.specs.Scripts.{AreOrigins, IsScriptOver, IsText}
pub use Rattle.qp_main.specs.Serving.{EndsRun, HearsRun, IsInput, IsLoad, RunsSession, ServesDue, ServesLoad, WritesDue}
pub use Rattle.qp_main.specs.Stops.{IsStop, JobStops, ListStops, ScriptStops, ZoneStops}
pub use Rattle.qp_main.specs.Tellings.{finished_text}
pub use Rattle.zone_model.specs.MasterFile.{zone_at}
pub use Rattle.zone_diff.specs.Differences.{difference}
pub use Rattle.zone_diff.specs.declared.Serial.{Serial}
