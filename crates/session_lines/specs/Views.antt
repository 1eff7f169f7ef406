-- Sessions as the definitions see them.
use Rattle.std.specs.Prelude.{◌≡◌, ℕ, List, [], ◌∷◌, map, Option, Some, None}
use Rattle.std.specs.Option.{option_map}
use Rattle.job_model.specs.Sessions as sessions
use Rattle.job_model.specs.declared.ScriptKind.TheVariants.{OpenBlock}
use Rattle.job_script.specs.Scripts.{unfinished_view}
use Rattle.job_script.specs.Views.{command_view}
use Rattle.job_script.specs.declared.commands.Command.{Command}
use Rattle.session_lines.specs.declared.session.Session.{Session}
use Rattle.session_lines.specs.declared.session.Said.{Said}
use Rattle.session_lines.specs.declared.session.Said.TheVariants as said

abbrev pub session_view : Session → sessions.Session
session_view s = record { held = s.held; block = option_map unfinished_view s.block; opened = s.opened; given_up = s.given_up }

-- what line n says, which completed these commands
abbrev pub said_view : ℕ → List Command → Said → List sessions.Said
said_view n commands said.Nothing = []
said_view n commands said.Runs = sessions.completed (map command_view commands)
said_view n commands (said.Refuses kind) = sessions.Refuses n kind ∷ []
said_view n commands said.GivesUp = sessions.GivesUp ∷ []
said_view n commands (said.RefusesLastWord kind) = sessions.Refuses n kind ∷ sessions.GivesUp ∷ []

-- line n took a session so far, and said this
abbrev pub StepsTo : sessions.Step → Session → ℕ → Said → Type 0
StepsTo step new n said = step ≡ sessions.step_of (session_view new) (said_view n new.commands.items said)

-- a transaction that is still open is refused by its first line
abbrev pub open_view : Option ℕ → List sessions.Said
open_view None = []
open_view (Some line) = sessions.Refuses line OpenBlock ∷ []
