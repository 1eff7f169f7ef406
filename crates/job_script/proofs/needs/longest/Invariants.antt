use Rattle.std.proofs.Common.{◌≡◌, max, drop, map}
use Rattle.job_model.specs.Needs.{longest}
use Rattle.job_script.specs.Views.{command_view}
use Rattle.job_script.proofs.needs.longest.Given as goal

-- what is left gives what all gives
abbrev pub invariant-loop-command : goal.invariant-loop-command
invariant-loop-command l = max (longest (map command_view (drop l.command-index l.commands))) l.most ≡ longest (map command_view l.commands)
