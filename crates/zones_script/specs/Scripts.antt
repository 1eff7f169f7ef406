-- A script over several zones: the commands of each worker. Outside blocks names are relative to the root. Inside a block a line says what
-- it says in the script of that zone alone.
use Rattle.std.specs.Prelude.{ℕ, ◌+◌, Bool, true, false, List, [], ◌∷◌, ◌++◌, length, nat_lt, if◌then◌else◌, position, Option, Some, None, Result, Ok}
use Rattle.zone_model.specs.Names.{Name, same_name}
use Rattle.zone_model.specs.Refusals.{Refused, ◌>>=◌}
use Rattle.zone_model.specs.Tokens.{Token}
use Rattle.zone_model.specs.MasterFile.{name_word, type_word}
use Rattle.job_model.specs.declared.ScriptKind.{ScriptKind}
use Rattle.job_model.specs.declared.ScriptKind.TheVariants.{NoWorker, BadCommand, BadName, BadType, TooMany}
use Rattle.job_model.specs.declared.Weight.{Weight}
use Rattle.job_model.specs.Commands as alone
use Rattle.job_model.specs.Phrases.{script_tokens}
use Rattle.job_model.specs.Arguments.{refuse, needed}
use Rattle.job_model.specs.Jobs as jobs
use Rattle.job_model.specs.Jobs.{worker_limit, command_limit}
use Rattle.zones_model.specs.Commands.{Command, Get, Block, Attach, Detach}
use Rattle.zones_script.specs.Phrases.{Phrase, Worker, Gets, Opens, Attaches, Detaches, phrase_of}

-- one of the zones: its number and its origin
pub record Chosen : Type 0 where
  pub zone : ℕ
  pub origin : Name

-- a block that is open: its zone, and what its lines say so far in a script of that zone alone
pub record OpenBlock : Type 0 where
  pub chosen : Chosen
  pub alone : jobs.Script

-- How far a script has come: the lists of the workers before the last one; whether a worker began, and its commands; and the block that is
-- open.
pub record Script : Type 0 where
  pub earlier : List (List Command)
  pub begun : Bool
  pub commands : List Command
  pub block : Option OpenBlock

-- the lists of the workers that began
abbrev pub lists_of : Script → List (List Command)
lists_of s = if s.begun then s.earlier ++ s.commands ∷ [] else []

-- ---- what words say

-- the zone that a word names by its origin
unfoldable pub chosen : List Name → ℕ → Token → Result Chosen (Refused ScriptKind)
chosen origins n word = do
  name ← needed n BadName (name_word [] word)
  zone ← needed n BadName (position (λ origin. same_name origin name) origins)
  Ok (record { zone = zone; origin = name })

-- a question
unfoldable pub question_of : ℕ → Token → Token → Result Command (Refused ScriptKind)
question_of n name rtype = do
  q ← needed n BadName (name_word [] name)
  t ← needed n BadType (type_word rtype)
  Ok (Get q t)

-- ---- a line outside a block

-- a worker began, and has room for one more command
unfoldable pub has_room : ℕ → Script → Result (Unit {0}) (Refused ScriptKind)
has_room n s =
    if s.begun then (if nat_lt (length s.commands) command_limit then Ok tt else refuse n (TooMany command_limit))
    else refuse n NoWorker

abbrev pub with_command : Script → Command → Result Script (Refused ScriptKind)
with_command s command = Ok (record s { commands = s.commands ++ command ∷ [] })

-- a block begins, as one does in a script of its zone alone
abbrev pub opened : ℕ → Weight → Script → Chosen → Result Script (Refused ScriptKind)
opened n weight s zone = Ok (record s { block = Some (record { chosen = zone; alone = jobs.opened n weight (record jobs.no_lines { begun = true }) }) })

-- the first worker's list begins, or the next one's
abbrev pub next_worker : Script → Script
next_worker s = if s.begun then record s { earlier = s.earlier ++ s.commands ∷ []; commands = [] } else record s { begun = true }

abbrev pub outside : List Name → ℕ → Phrase → Script → Result Script (Refused ScriptKind)
outside origins n Worker s = if nat_lt (length (lists_of s)) worker_limit then Ok (next_worker s) else refuse n (TooMany worker_limit)
outside origins n (Gets name rtype) s = do
  _ ← has_room n s
  command ← question_of n name rtype
  with_command s command
outside origins n (Opens weight origin) s = do
  _ ← has_room n s
  zone ← chosen origins n origin
  opened n weight s zone
outside origins n (Attaches origin) s = do
  _ ← has_room n s
  zone ← chosen origins n origin
  with_command s (Attach zone.zone)
outside origins n (Detaches origin) s = do
  _ ← has_room n s
  zone ← chosen origins n origin
  with_command s (Detach zone.zone)

abbrev pub taken : List Name → ℕ → Script → Option Phrase → Result Script (Refused ScriptKind)
taken origins n s None = refuse n BadCommand
taken origins n s (Some phrase) = outside origins n phrase s

-- the tokens of line n; a line without tokens says nothing
abbrev pub tokens_say : List Name → ℕ → Script → Option (List Token) → Result Script (Refused ScriptKind)
tokens_say origins n s None = refuse n BadCommand
tokens_say origins n s (Some []) = Ok s
tokens_say origins n s (Some (t ∷ tokens)) = taken origins n s (phrase_of (t ∷ tokens))

-- ---- a line inside a block

-- The block that a script alone has come to, as a command of its zone: the lines of a block make no other.
abbrev pub in_zone : ℕ → List alone.Command → List Command
in_zone zone [] = []
in_zone zone (alone.Block weight asked ending ∷ commands) = Block zone weight asked ending ∷ []
in_zone zone (alone.Ask question ∷ commands) = []
in_zone zone (alone.Hold ∷ commands) = []
in_zone zone (alone.AskHeld question ∷ commands) = []
in_zone zone (alone.Release ∷ commands) = []
in_zone zone (alone.Compact ∷ commands) = []

abbrev pub joined : ℕ → List alone.Command → Script → Script
joined zone commands s = record s { commands = s.commands ++ in_zone zone commands; block = None }

-- A line was taken into a block: it goes on, or has ended and is the worker's next command.
abbrev pub goes_on : OpenBlock → Script → jobs.Script → Script
goes_on b s after = by_block after.block
  where
    by_block : Option jobs.Unfinished → Script
    by_block (Some _) = record s { block = Some (record b { alone = after }) }
    by_block None = joined b.chosen.zone after.commands s

abbrev pub inside : ℕ → List ℕ → OpenBlock → Script → Result Script (Refused ScriptKind)
inside n line b s = jobs.script_line b.chosen.origin n line b.alone >>= (λ after. Ok (goes_on b s after))

-- ---- the lines

abbrev pub by_block : List Name → ℕ → List ℕ → Script → Option OpenBlock → Result Script (Refused ScriptKind)
by_block origins n line s None = tokens_say origins n s (script_tokens n line)
by_block origins n line s (Some b) = inside n line b s

unfoldable pub script_line : List Name → ℕ → List ℕ → Script → Result Script (Refused ScriptKind)
script_line origins n line s = by_block origins n line s s.block

unfoldable pub script_from : List Name → ℕ → List (List ℕ) → Script → Result Script (Refused ScriptKind)
script_from origins n [] s = Ok s
script_from origins n (line ∷ lines) s = script_line origins n line s >>= script_from origins (n + 1) lines

-- where no block is open at the end
abbrev pub while_closed : {A : Type 0} → Option OpenBlock → Result A (Refused ScriptKind) → Result A (Refused ScriptKind)
while_closed None next = next
while_closed (Some b) next = jobs.while_closed b.alone.block next

-- the end of a script of which the next line would have a number
abbrev pub finished : ℕ → Script → Result (List (List Command)) (Refused ScriptKind)
finished n s = while_closed s.block (if s.begun then Ok (lists_of s) else refuse n NoWorker)

-- a script of which no line was read
abbrev pub no_lines : Script
no_lines = record { earlier = []; begun = false; commands = []; block = None }

-- the workers' commands that these lines say over zones of these origins; the first line has a number
unfoldable pub script_of : List Name → ℕ → List (List ℕ) → Result (List (List Command)) (Refused ScriptKind)
script_of origins n lines = script_from origins n lines no_lines >>= finished (n + length lines)
