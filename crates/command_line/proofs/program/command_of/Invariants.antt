use Rattle.std.proofs.Common.{◌≡◌, drop, map, false}
use Rattle.clap.specs.Simple.{app_of, new_app}
use Rattle.clap.specs.declared.builder.command.Command.TheViews.{out-Command as fields_of}
use Rattle.command_line.specs.Parsed.{option_rule, with_options}
use Rattle.command_line.proofs.program.command_of.Given as goal

abbrev pub invariant-loop-long : goal.invariant-loop-long
invariant-loop-long l = record {
  goes_on : with_options (app_of l.command) (map (λ o. option_rule o.0.now o.2) (drop l.long-index l.options)) ≡ with_options (new_app l.name) (map (λ o. option_rule o.0.now o.2) l.options);
  local : (fields_of l.command).has_globals ≡ false;
}
