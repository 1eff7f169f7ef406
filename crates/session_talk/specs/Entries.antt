-- What was answered so far, while a session goes on.
use Rattle.std.specs.Prelude.{◌≡◌, ℕ, false, List, [], ◌∷◌, ◌++◌, length}
use Rattle.zone_model.specs.Versions.{Version}
use Rattle.job_model.specs.declared.ScriptKind.{ScriptKind}
use Rattle.job_model.specs.Commands.{Command}
use Rattle.job_model.specs.Sessions as sessions
use Rattle.job_model.specs.Sessions.{Said, Reply, ready_text}
use Rattle.job_report.specs.Outcomes.{outcome_view}
use Rattle.job_report.specs.declared.outcomes.Outcome.{Outcome}
use Rattle.session_lines.specs.Printing.{Printing, with_given_up, with_ran, with_refused}

-- a command came to an outcome; a line was refused; a transaction was given up
pub data Entry : Type 0 where
  Came : (command : Command) (outcome : Outcome) → Entry
  Refused : (line : ℕ) (kind : ScriptKind) → Entry
  Gave : Entry

-- what is replied
abbrev pub reply_in : Entry → Reply
reply_in (Came command outcome) = sessions.Ran (command, outcome_view outcome)
reply_in (Refused line kind) = sessions.RefusedLine line kind
reply_in Gave = sessions.GivenUp

abbrev pub replies_in : List Entry → List Reply
replies_in [] = []
replies_in (e ∷ entries) = reply_in e ∷ replies_in entries

-- what they answer
abbrev pub said_in : List Entry → List Said
said_in [] = []
said_in (Came command outcome ∷ entries) = sessions.Runs command ∷ said_in entries
said_in (Refused line kind ∷ entries) = sessions.Refuses line kind ∷ said_in entries
said_in (Gave ∷ entries) = sessions.GivesUp ∷ said_in entries

-- the commands, and their outcomes

abbrev pub commands_in : List Entry → List Command
commands_in [] = []
commands_in (Came command outcome ∷ entries) = command ∷ commands_in entries
commands_in (Refused line kind ∷ entries) = commands_in entries
commands_in (Gave ∷ entries) = commands_in entries

abbrev pub outcomes_in : List Entry → List Outcome
outcomes_in [] = []
outcomes_in (Came command outcome ∷ entries) = outcome ∷ outcomes_in entries
outcomes_in (Refused line kind ∷ entries) = outcomes_in entries
outcomes_in (Gave ∷ entries) = outcomes_in entries

-- what is printed

abbrev pub with_entry : Printing → Entry → Printing
with_entry p (Came command outcome) = with_ran p command outcome
with_entry p (Refused line kind) = with_refused p line kind
with_entry p Gave = with_given_up p

abbrev pub with_entries : Printing → List Entry → Printing
with_entries p [] = p
with_entries p (e ∷ entries) = with_entries (with_entry p e) entries

-- behind the first line of a session over a zone
abbrev pub at_ready : Version → Printing
at_ready zone = record { text = ready_text (length zone); next = 1; seen = 0; refused = false }

-- a worker has run the commands
abbrev pub Ran : (List Command → List Outcome → Type 0) → List Entry → Type 0
Ran has_run entries = has_run (commands_in entries) (outcomes_in entries)

-- what was said was answered by more entries
pub record Replied (has_run : List Command → List Outcome → Type 0) (entries : List Entry) (said : List Said) (before now : Printing) : Type 0 where
  pub more : List Entry
  pub same : said_in more ≡ said
  pub ran : Ran has_run (entries ++ more)
  pub printed : now ≡ with_entries before more
