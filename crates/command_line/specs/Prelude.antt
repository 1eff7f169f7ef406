-- The words that this crate's clauses cite, passed on from one place. Declares nothing.
pub use Rattle.std.specs.Option.{option_map}
pub use Rattle.std.specs.String.{string_bytes}
pub use Rattle.clap.specs.Matches.{found_of}
pub use Rattle.clap.specs.Simple.{app_of, new_app, new_shape, subcommand_rows_of}
pub use Rattle.clap.specs.Values.{kind_of}
pub use Rattle.clap.specs.Walk.{first_of, rows_of, rule_of}
pub use Rattle.clap.specs.declared.builder.command.Command.TheViews.{out-Command as fields_of}
pub use Rattle.clap.specs.declared.error.kind.ErrorKind.TheVariants.{OutOfMemory}
pub use Rattle.zone_model.specs.Texts.{digits_from, number}
pub use Rattle.job_model.specs.Loads.{made_origin}
pub use Rattle.job_make.specs.Views.{load_view}
pub use Rattle.command_line.specs.Invocations.{asked_of, differing_of, dumping_of, feeding_of, makes_nothing, making_of}
pub use Rattle.command_line.specs.Invocations.{plain_of, reading_of, sizing_of, under_origin, zones_of}
pub use Rattle.command_line.specs.Numbers.{chunks_of, names_of, seed_of, turns_of, within, workers_of}
pub use Rattle.command_line.specs.Options.{chunks_given, first, load_of, no_options, options_from, origin_of, style_of, with_option}
pub use Rattle.command_line.specs.Parsed.{option_rule, program_app, with_commands, with_options}
pub use Rattle.command_line.specs.Views.{invocation_view, options_view, verb_view}
pub use Rattle.command_line.specs.Words.{invocation_of}
