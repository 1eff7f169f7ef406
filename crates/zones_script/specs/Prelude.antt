-- The words that this crate's clauses cite, passed on from one place. Declares nothing.
pub use Rattle.std.specs.List.{All}
pub use Rattle.std.specs.Option.{option_map}
pub use Rattle.zone_model.specs.Lines.{lines_of}
pub use Rattle.zone_model.specs.Names.{Name, same_name}
pub use Rattle.zone_text.specs.Tokens.{IsPlaced, token_view}
pub use Rattle.job_script.specs.Scripts.{LineSteps, Says, ScriptReads, script_view as alone_view}
pub use Rattle.zones_model.specs.Commands.{Command}
pub use Rattle.zones_script.specs.Scripts.{script_of}
pub use Rattle.zones_script.specs.Told.{AreLists}
pub use Rattle.zones_script.specs.Views.{PhrasePlaced, chosen_view, command_view, open_view, phrase_view, script_view, workers_view}
