-- A session: one worker's lines, which come one by one, each of which is replied to before more is asked for.
use Rattle.std.specs.Prelude.{◌≡◌, ℕ, ◌+◌, Bool, true, false, List, [], ◌∷◌, ◌++◌, length, map, if◌then◌else◌, Option, Some, None, Result, Ok, Err, codes}
use Rattle.std.specs.Option.{is_some}
use Rattle.std.specs.Fmt.{decimal}
use Rattle.zone_model.specs.Names.{Name}
use Rattle.zone_model.specs.Refusals.{Refused}
use Rattle.zone_model.specs.Tokens.{Token}
use Rattle.zone_model.specs.Versions.{Version}
use Rattle.job_model.specs.declared.ScriptKind.{ScriptKind}
use Rattle.job_model.specs.declared.ScriptKind.TheVariants.{NoWorker, BadCommand, BadName, BadType, BadRdata, BadNumber, OpenBlock, NotHeld, AlreadyHeld, TooMany}
use Rattle.job_model.specs.Commands.{Command, held_after}
use Rattle.job_model.specs.Words.{says}
use Rattle.job_model.specs.Phrases.{script_tokens}
use Rattle.job_model.specs.Jobs.{Script, Unfinished, no_live_lines, script_line}
use Rattle.job_model.specs.Outcomes.{Pair, WorkerProgress, Lawful, all_pairs, at_first, is_refused, progress_after, version_at}
use Rattle.job_model.specs.Reports.{command_text, end_text, head_text}
use Rattle.job_model.specs.Feeds.{passes_fed}

-- ---- what a line says

-- A command is to be run; the line of this number is refused; the last word has come of a transaction that a refused line gave up.
pub data Said : Type 0 where
  Runs : (command : Command) → Said
  Refuses : (line : ℕ) (kind : ScriptKind) → Said
  GivesUp : Said

-- What a session is between two lines: whether it holds a snapshot; the transaction that is open, and the number of its first line; and
-- whether a refused line gave one up, whose last word is still to come.
pub record Session : Type 0 where
  pub held : Bool
  pub block : Option Unfinished
  pub opened : ℕ
  pub given_up : Bool

abbrev pub first_session : Session
first_session = record { held = false; block = None; opened = 0; given_up = false }

-- a session behind a line, and what the line says
pub record Step : Type 0 where
  pub session : Session
  pub said : List Said

abbrev pub step_of : Session → List Said → Step
step_of session said = record { session = session; said = said }

-- a line is read as line 1 of a script, in which no command stands before it
abbrev pub script_at : Session → Script
script_at s = record no_live_lines { held = s.held; block = s.block }

-- the tokens are the last word of a transaction
abbrev pub ends_block : Option (List Token) → Bool
ends_block None = false
ends_block (Some []) = false
ends_block (Some (t ∷ [])) = if says t (codes "commit") then true else says t (codes "rollback")
ends_block (Some (t ∷ other ∷ rest)) = false

abbrev pub is_last_word : List ℕ → Bool
is_last_word line = ends_block (script_tokens 1 line)

-- a line completes one command at most
abbrev pub completed : List Command → List Said
completed [] = []
completed (command ∷ commands) = Runs command ∷ []

-- whether a snapshot is held behind it
abbrev pub held_by : Bool → List Command → Bool
held_by held [] = held
held_by held (command ∷ commands) = held_after held command

-- line n was taken, and the script has come this far: the command in it is run
abbrev pub went_on : ℕ → Session → Script → Step
went_on n s script = record {
  session = record s { held = held_by s.held script.commands; block = script.block; opened = (if is_some s.block then s.opened else n) };
  said = completed script.commands;
}

-- A refused line gives up the transaction that is open, up to its last word, which it may be itself.
abbrev pub gave_up : ℕ → ScriptKind → Session → Bool → Step
gave_up n kind s true = step_of (record s { block = None }) (Refuses n kind ∷ GivesUp ∷ [])
gave_up n kind s false = step_of (record s { block = None; given_up = true }) (Refuses n kind ∷ [])

abbrev pub refused_in : ℕ → ScriptKind → Session → Bool → Option Unfinished → Step
refused_in n kind s last None = step_of s (Refuses n kind ∷ [])
refused_in n kind s last (Some b) = gave_up n kind s last

abbrev pub took : ℕ → List ℕ → Session → Result Script (Refused ScriptKind) → Step
took n line s (Ok script) = went_on n s script
took n line s (Err e) = refused_in n e.kind s (is_last_word line) s.block

-- the lines of a transaction that was given up are passed over
abbrev pub passed_over : Session → Bool → Step
passed_over s true = step_of (record s { given_up = false }) (GivesUp ∷ [])
passed_over s false = step_of s []

-- line n of a session
unfoldable pub session_line : Name → ℕ → List ℕ → Session → Step
session_line origin n line s =
    if s.given_up then passed_over s (is_last_word line) else took n line s (script_line origin 1 line (script_at s))

-- lines, the first of which has number n
unfoldable pub session_lines : Name → ℕ → List (List ℕ) → Session → Step
session_lines origin n [] s = step_of s []
session_lines origin n (line ∷ lines) s =
    let first : Step = session_line origin n line s in
    let rest : Step = session_lines origin (n + 1) lines first.session in
    step_of rest.session (first.said ++ rest.said)

-- where no more lines come, a transaction that is open is refused, by the line of its first word
abbrev pub left_open : ℕ → Option Unfinished → List Said
left_open opened None = []
left_open opened (Some b) = Refuses opened OpenBlock ∷ []

-- what is said where no more lines come
abbrev pub all_said : Step → List Said
all_said step = step.said ++ left_open step.session.opened step.session.block

-- ---- replies

-- a command with its outcome; a line that is refused; a transaction that was given up
pub data Reply : Type 0 where
  Ran : (pair : Pair) → Reply
  RefusedLine : (line : ℕ) (kind : ScriptKind) → Reply
  GivenUp : Reply

-- what is replied to
abbrev pub said_of : Reply → Said
said_of (Ran pair) = Runs pair.0
said_of (RefusedLine line kind) = Refuses line kind
said_of GivenUp = GivesUp

-- the commands with their outcomes
abbrev pub pairs_in : List Reply → List Pair
pairs_in [] = []
pairs_in (Ran pair ∷ replies) = pair ∷ pairs_in replies
pairs_in (RefusedLine line kind ∷ replies) = pairs_in replies
pairs_in (GivenUp ∷ replies) = pairs_in replies

-- something was refused: a line, a transaction
abbrev pub refuses_some : List Reply → Bool
refuses_some [] = false
refuses_some (Ran pair ∷ replies) = if is_refused pair.1.ended then true else refuses_some replies
refuses_some (RefusedLine line kind ∷ replies) = true
refuses_some (GivenUp ∷ replies) = true

-- ---- what is printed

abbrev pub script_kind_text : ScriptKind → List ℕ
script_kind_text NoWorker = codes "NoWorker"
script_kind_text BadCommand = codes "BadCommand"
script_kind_text BadName = codes "BadName"
script_kind_text BadType = codes "BadType"
script_kind_text BadRdata = codes "BadRdata"
script_kind_text BadNumber = codes "BadNumber"
script_kind_text OpenBlock = codes "OpenBlock"
script_kind_text NotHeld = codes "NotHeld"
script_kind_text AlreadyHeld = codes "AlreadyHeld"
script_kind_text (TooMany limit) = codes "TooMany"

-- how many names version 0 has
abbrev pub ready_text : ℕ → List ℕ
ready_text names = codes "live v0 names " ++ decimal names ++ codes "\n"

abbrev pub refused_line_text : ℕ → ScriptKind → List ℕ
refused_line_text line kind = codes "refused line " ++ decimal line ++ codes " " ++ script_kind_text kind ++ codes "\n"

-- command c, on the version that the session saw or made last
abbrev pub given_up_text : ℕ → ℕ → List ℕ
given_up_text c version = head_text 1 c version ++ codes "REFUSED line\n"

-- replies, the first command of which has number c, where this was come to before; a transaction that was given up counts as a command
abbrev pub replies_text : Name → (ℕ → Version) → ℕ → WorkerProgress → List Reply → List ℕ
replies_text origin set c progress [] = []
replies_text origin set c progress (Ran pair ∷ replies) =
    head_text 1 c pair.1.version ++ command_text origin set pair.0 pair.1 ++ replies_text origin set (c + 1) (progress_after progress pair.0 pair.1.version) replies
replies_text origin set c progress (RefusedLine line kind ∷ replies) = refused_line_text line kind ++ replies_text origin set c progress replies
replies_text origin set c progress (GivenUp ∷ replies) = given_up_text c progress.seen ++ replies_text origin set (c + 1) progress replies

-- the versions of a zone that these replies made
abbrev pub versions_in : Name → Version → List Reply → ℕ → Version
versions_in origin zone replies = version_at origin zone (all_pairs (pairs_in replies ∷ []))

-- the first line, and the replies
abbrev pub session_text : Name → Version → List Reply → List ℕ
session_text origin zone replies = ready_text (length zone) ++ replies_text origin (versions_in origin zone replies) 1 at_first replies

-- ---- which replies there may be

-- Replies to what lines said: of commands with lawful outcomes, on an index of so many chunks that has a pass for the worker's questions
-- and transactions, and one for its snapshot. The last version is the last that they made.
pub record Replied (chunks : ℕ) (origin : Name) (zone : Version) (said : List Said) (replies : List Reply) (last : ℕ) : Type 0 where
  pub same : map said_of replies ≡ said
  pub lawful : Lawful chunks (passes_fed 1) origin zone (pairs_in replies ∷ []) last

-- the text of such replies
pub record Answered (chunks : ℕ) (origin : Name) (zone : Version) (said : List Said) (text : List ℕ) : Type 0 where
  pub replies : List Reply
  pub last : ℕ
  pub replied : Replied chunks origin zone said replies last
  pub is : text ≡ session_text origin zone replies

-- the text of such replies and of the last line, of a session in which something was refused or not
pub record Ended (chunks : ℕ) (origin : Name) (zone : Version) (said : List Said) (refused : Bool) (text : List ℕ) : Type 0 where
  pub replies : List Reply
  pub last : ℕ
  pub replied : Replied chunks origin zone said replies last
  pub some_refused : refused ≡ refuses_some replies
  pub is : text ≡ session_text origin zone replies ++ end_text last (length (versions_in origin zone replies last))
