-- The command that a line completed.
use Rattle.std.proofs.Common.{◌≡◌, List, [], ◌∷◌, map, Some, None, refl, ap}
use Rattle.std.specs.Prelude.{slice_get}
use Rattle.job_model.specs.Sessions.{Runs, completed}
use Rattle.job_script.specs.Views.{command_view}
use Rattle.job_script.specs.declared.commands.Command.{Command}

pub runs_first : (commands : List Command) (command : Command) → Some command ≡ slice_get commands 0 → completed (map command_view commands) ≡ Runs (command_view command) ∷ []
runs_first [] command is = absurd (let e : Some command ≡ None = is in cc)
runs_first (first ∷ commands) command is = let same : first ≡ command = cc in ap (λ (c : Command). Runs (command_view c) ∷ []) same

pub runs_none : (commands : List Command) → None ≡ slice_get commands 0 → completed (map command_view commands) ≡ []
runs_none [] is = refl
runs_none (first ∷ commands) is = absurd (let e : None ≡ Some first = is in cc)
