-- The words that this crate's clauses cite, passed on from one place. Declares nothing.
pub use Rattle.std.specs.List.{All, AllByRecursion}
pub use Rattle.std.specs.Option.{option_map}
pub use Rattle.zone_model.specs.Data.{data_of}
pub use Rattle.zone_model.specs.Lines.{lines_of}
pub use Rattle.zone_model.specs.Names.{Name, Name as Labels}
pub use Rattle.zone_text.specs.Tokens.{IsPlaced, token_view}
pub use Rattle.zone_change.specs.Views.{operation_view, prerequisite_view}
pub use Rattle.zone_model.specs.MasterFile.{type_word}
pub use Rattle.job_model.specs.Arguments.{prerequisite_of}
pub use Rattle.job_model.specs.Commands.{InTurn, Job, NeedsNoSnapshot}
pub use Rattle.job_model.specs.Jobs.{JobRefusal, job_of, script_lines, script_start, zone_lines}
pub use Rattle.job_model.specs.Needs.{cells_added, cells_of_commands, cells_of_operations, cells_of_workers, longest, longest_of_workers}
pub use Rattle.job_model.specs.Outcomes.{asked_by}
pub use Rattle.job_script.specs.Asked.{AskedPlaced, asked_view, whole_view}
pub use Rattle.job_script.specs.Parts.{ArePartsOf, IsCutAt}
pub use Rattle.job_script.specs.Phrases.{PhrasePlaced, operation_said, phrase_view}
pub use Rattle.job_script.specs.Scripts.{IsNoCommand, IsOneTooMany, IsTold, LineReads, Passes, Says, ScriptReads, ScriptSteps, first_script, script_view, unfinished_view, with_asked}
pub use Rattle.job_script.specs.Spelled.{SaysJob}
pub use Rattle.job_script.specs.Views.{command_view, job_view, list_view, worker_view, workers_view}
