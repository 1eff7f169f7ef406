use Rattle.std.proofs.Common.{◌≡◌, drop, map}
use Rattle.clap.specs.Simple.{app_of, new_app}
use Rattle.command_line.specs.Parsed.{option_rule, with_commands, with_options}
use Rattle.command_line.proofs.program.with_commands.Given as goal

-- the commands that are left join to the whole
abbrev pub invariant-loop-name : goal.invariant-loop-name
invariant-loop-name l =
    with_commands (app_of l.command) (map (λ o. (with_options (new_app o.0.now) (map (λ r. option_rule r.0.now r.2) o.2.now)).top) (drop l.name-index l.commands))
    ≡ with_commands (app_of l.fn.whole) (map (λ o. (with_options (new_app o.0.now) (map (λ r. option_rule r.0.now r.2) o.2.now)).top) l.commands)
