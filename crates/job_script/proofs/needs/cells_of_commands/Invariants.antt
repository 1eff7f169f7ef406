use Rattle.std.proofs.Common.{◌≡◌, ◌+◌, drop, map}
use Rattle.job_model.specs.Needs.{cells_of_commands}
use Rattle.job_script.specs.Views.{command_view}
use Rattle.job_script.proofs.needs.cells_of_commands.Given as goal

-- what is left gives what all gives
abbrev pub invariant-loop-command : goal.invariant-loop-command
invariant-loop-command l = l.cells + cells_of_commands (map command_view (drop l.command-index l.commands)) ≡ cells_of_commands (map command_view l.commands)
