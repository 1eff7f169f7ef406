-- A job: the zone, and the commands of each worker, or one list of commands.
use Rattle.std.specs.Prelude.{ℕ, ◌+◌, Bool, true, false, not, List, [], ◌∷◌, ◌++◌, length, ◌==◌, nat_lt, if◌then◌else◌, Option, Some, None, Result, Ok, Err, codes}
use Rattle.std.specs.List.{before_first, after_first, list_any}
use Rattle.std.specs.Str.{bytes_eq}
use Rattle.zone_model.specs.Names.{Name}
use Rattle.zone_model.specs.Versions.{Operation}
use Rattle.zone_model.specs.Transactions.{Prerequisite, Transaction, no_changes}
use Rattle.zone_model.specs.Lines.{lines_of}
use Rattle.zone_model.specs.Refusals.{Refused, ◌>>=◌}
use Rattle.zone_model.specs.Tokens.{Token}
use Rattle.zone_model.specs.MasterFile.{zone_of}
use Rattle.zone_model.specs.declared.ZoneKind.{ZoneKind}
use Rattle.job_model.specs.declared.Ending.{Ending}
use Rattle.job_model.specs.declared.Ending.TheVariants.{Commit, Rollback}
use Rattle.job_model.specs.declared.Listing.{Listing}
use Rattle.job_model.specs.declared.Listing.TheVariants.{ByWorker, OneList, Live}
use Rattle.job_model.specs.declared.ScriptKind.{ScriptKind}
use Rattle.job_model.specs.declared.ScriptKind.TheVariants.{NoWorker, BadCommand, OpenBlock, NotHeld, AlreadyHeld, TooMany}
use Rattle.job_model.specs.declared.Weight.{Weight}
use Rattle.job_model.specs.declared.Weight.TheVariants.{Light, Heavy}
use Rattle.job_model.specs.declared.Question.{Question}
use Rattle.job_model.specs.Commands.{Command, Ask, Hold, AskHeld, Release, Block, Compact, Job, FedJob}
use Rattle.job_model.specs.Phrases.{Phrase, Worker, Asks, AsksWhole, Holds, AsksHeld, AsksHeldWhole, Releases, Opens, Needs, Adds, Deletes, Ends, Compacts, phrase_of, script_tokens}
use Rattle.job_model.specs.Arguments.{refuse, at_line, prerequisite_of, addition_of, deletion_of}

-- why bytes are no job
pub data JobRefusal : Type 0 where
  ZoneRefused : (refused : Refused ZoneKind) → JobRefusal
  ScriptRefused : (refused : Refused ScriptKind) → JobRefusal

-- ---- a script

-- a block that has not ended, with the line of its first word
pub record Unfinished : Type 0 where
  pub start : ℕ
  pub weight : Weight
  pub asked : Transaction

-- How far a script has come: how its commands are listed; the lists of the workers before the last one; whether a worker began, its
-- commands, and whether it holds a snapshot; and the block that is open.
pub record Script : Type 0 where
  pub listing : Listing
  pub earlier : List (List Command)
  pub begun : Bool
  pub commands : List Command
  pub held : Bool
  pub block : Option Unfinished

-- the lists of the workers that began
abbrev pub lists_of : Script → List (List Command)
lists_of s = if s.begun then s.earlier ++ s.commands ∷ [] else []

-- the most workers, commands of a worker, prerequisites of a block, and operations of one
abbrev pub worker_limit : ℕ
worker_limit = 16

abbrev pub command_limit : ℕ
command_limit = 10000

abbrev pub need_limit : ℕ
need_limit = 10000

abbrev pub operation_limit : ℕ
operation_limit = 10000

-- ---- which lines there may be

-- each worker has a list of its own
abbrev pub is_by_worker : Listing → Bool
is_by_worker ByWorker = true
is_by_worker OneList = false
is_by_worker Live = false

-- a list is one worker's, which may hold a snapshot
abbrev pub has_snapshots : Listing → Bool
has_snapshots ByWorker = true
has_snapshots OneList = false
has_snapshots Live = true

-- lines come while they are answered
abbrev pub is_live : Listing → Bool
is_live ByWorker = false
is_live OneList = false
is_live Live = true

-- No worker begins where there is one list. Where any worker may run any command of it, no snapshot is taken, asked or given back. A
-- whole response is for who waits for it.
abbrev pub may_stand : Listing → Phrase → Bool
may_stand listing Worker = is_by_worker listing
may_stand listing (Asks asked) = true
may_stand listing (AsksWhole asked) = is_live listing
may_stand listing Holds = has_snapshots listing
may_stand listing (AsksHeld asked) = has_snapshots listing
may_stand listing (AsksHeldWhole asked) = is_live listing
may_stand listing Releases = has_snapshots listing
may_stand listing (Opens _) = true
may_stand listing (Needs wanted owner rtype) = true
may_stand listing (Adds owner ttl rtype tokens) = true
may_stand listing (Deletes owner rest) = true
may_stand listing (Ends ending) = true
may_stand listing Compacts = true

-- ---- a line outside a block

-- behind a `worker`
abbrev pub of_worker : {A : Type 0} → ℕ → Script → Result A (Refused ScriptKind) → Result A (Refused ScriptKind)
of_worker n s next = if s.begun then next else refuse n NoWorker

-- while the worker holds a snapshot, and while it holds none
abbrev pub while_held : {A : Type 0} → ℕ → Script → Result A (Refused ScriptKind) → Result A (Refused ScriptKind)
while_held n s next = if s.held then next else refuse n NotHeld

abbrev pub while_free : {A : Type 0} → ℕ → Script → Result A (Refused ScriptKind) → Result A (Refused ScriptKind)
while_free n s next = if s.held then refuse n AlreadyHeld else next

-- where the worker has room for one command more
abbrev pub with_room : {A : Type 0} → ℕ → Script → Result A (Refused ScriptKind) → Result A (Refused ScriptKind)
with_room n s next = if nat_lt (length s.commands) command_limit then next else refuse n (TooMany command_limit)

abbrev pub with_command : Script → Command → Script
with_command s command = record s { commands = s.commands ++ command ∷ [] }

abbrev pub with_question : Script → Question → Result Script (Refused ScriptKind)
with_question s question = Ok (with_command s (Ask question))

abbrev pub with_held_question : Script → Question → Result Script (Refused ScriptKind)
with_held_question s question = Ok (with_command s (AskHeld question))

abbrev pub holding : Script → Script
holding s = record (with_command s Hold) { held = true }

abbrev pub released : Script → Script
released s = record (with_command s Release) { held = false }

abbrev pub opened : ℕ → Weight → Script → Script
opened n weight s = record s { block = Some (record { start = n; weight = weight; asked = no_changes }) }

-- the first worker's list begins, or the next one's
abbrev pub next_worker : Script → Script
next_worker s = if s.begun then record s { earlier = s.earlier ++ s.commands ∷ []; commands = []; held = false } else record s { begun = true }

-- a question to the current version, and one to the snapshot
abbrev pub asking : ℕ → Script → Result Question ScriptKind → Result Script (Refused ScriptKind)
asking n s asked = of_worker n s (with_room n s (at_line n asked >>= with_question s))

abbrev pub asking_held : ℕ → Script → Result Question ScriptKind → Result Script (Refused ScriptKind)
asking_held n s asked = of_worker n s (while_held n s (with_room n s (at_line n asked >>= with_held_question s)))

abbrev pub outside : Name → ℕ → Phrase → Script → Result Script (Refused ScriptKind)
outside origin n Worker s = if nat_lt (length (lists_of s)) worker_limit then Ok (next_worker s) else refuse n (TooMany worker_limit)
outside origin n (Asks asked) s = asking n s asked
outside origin n (AsksWhole asked) s = asking n s asked
outside origin n Holds s = of_worker n s (while_free n s (with_room n s (Ok (holding s))))
outside origin n (AsksHeld asked) s = asking_held n s asked
outside origin n (AsksHeldWhole asked) s = asking_held n s asked
outside origin n Releases s = of_worker n s (while_held n s (with_room n s (Ok (released s))))
outside origin n (Opens weight) s = of_worker n s (with_room n s (Ok (opened n weight s)))
outside origin n (Needs wanted owner rtype) s = refuse n BadCommand
outside origin n (Adds owner ttl rtype tokens) s = refuse n BadCommand
outside origin n (Deletes owner rest) s = refuse n BadCommand
outside origin n (Ends ending) s = refuse n BadCommand
outside origin n Compacts s = of_worker n s (with_room n s (Ok (with_command s Compact)))

-- ---- a line inside a block

abbrev pub with_asked : Unfinished → Script → Transaction → Script
with_asked b s asked = record s { block = Some (record b { asked = asked }) }

abbrev pub with_need : Unfinished → Script → Prerequisite → Result Script (Refused ScriptKind)
with_need b s need = Ok (with_asked b s (record b.asked { needs = b.asked.needs ++ need ∷ [] }))

-- a prerequisite stands before the operations of a block that has room for it
abbrev pub needed_first : ℕ → Unfinished → Script → Result Prerequisite (Refused ScriptKind) → Result Script (Refused ScriptKind)
needed_first n b s need =
    if not (length b.asked.operations == 0) then refuse n BadCommand
    else if nat_lt (length b.asked.needs) need_limit then need >>= with_need b s
    else refuse n (TooMany need_limit)

abbrev pub with_operation : Unfinished → Script → Operation → Result Script (Refused ScriptKind)
with_operation b s operation = Ok (with_asked b s (record b.asked { operations = b.asked.operations ++ operation ∷ [] }))

-- an operation of a block that has room for it
abbrev pub joined : ℕ → Unfinished → Script → Result Operation (Refused ScriptKind) → Result Script (Refused ScriptKind)
joined n b s operation = if nat_lt (length b.asked.operations) operation_limit then operation >>= with_operation b s else refuse n (TooMany operation_limit)

-- only a heavy transaction may be rolled back
abbrev pub may_end : Weight → Ending → Bool
may_end Light Commit = true
may_end Light Rollback = false
may_end Heavy Commit = true
may_end Heavy Rollback = true

abbrev pub ended : ℕ → Unfinished → Ending → Script → Result Script (Refused ScriptKind)
ended n b ending s =
    if may_end b.weight ending then Ok (record (with_command s (Block b.weight b.asked ending)) { block = None })
    else refuse n BadCommand

abbrev pub inside : Name → ℕ → Unfinished → Phrase → Script → Result Script (Refused ScriptKind)
inside origin n b Worker s = refuse b.start OpenBlock
inside origin n b (Asks asked) s = refuse n BadCommand
inside origin n b (AsksWhole asked) s = refuse n BadCommand
inside origin n b Holds s = refuse n BadCommand
inside origin n b (AsksHeld asked) s = refuse n BadCommand
inside origin n b (AsksHeldWhole asked) s = refuse n BadCommand
inside origin n b Releases s = refuse n BadCommand
inside origin n b (Opens _) s = refuse n BadCommand
inside origin n b (Needs wanted owner rtype) s = needed_first n b s (prerequisite_of origin n wanted owner rtype)
inside origin n b (Adds owner ttl rtype tokens) s = joined n b s (addition_of origin n owner ttl rtype tokens)
inside origin n b (Deletes owner rest) s = joined n b s (deletion_of origin n owner rest)
inside origin n b (Ends ending) s = ended n b ending s
inside origin n b Compacts s = refuse n BadCommand

-- ---- the lines

-- outside of blocks, or inside the one that is open
abbrev pub by_block : Name → ℕ → Phrase → Script → Option Unfinished → Result Script (Refused ScriptKind)
by_block origin n phrase s None = outside origin n phrase s
by_block origin n phrase s (Some b) = inside origin n b phrase s

abbrev pub taken : Name → ℕ → Script → Option Phrase → Result Script (Refused ScriptKind)
taken origin n s None = refuse n BadCommand
taken origin n s (Some phrase) = if may_stand s.listing phrase then by_block origin n phrase s s.block else refuse n BadCommand

-- the tokens of line n; a line without tokens says nothing
abbrev pub tokens_say : Name → ℕ → Script → Option (List Token) → Result Script (Refused ScriptKind)
tokens_say origin n s None = refuse n BadCommand
tokens_say origin n s (Some []) = Ok s
tokens_say origin n s (Some (t ∷ tokens)) = taken origin n s (phrase_of origin (t ∷ tokens))

unfoldable pub script_line : Name → ℕ → List ℕ → Script → Result Script (Refused ScriptKind)
script_line origin n line s = tokens_say origin n s (script_tokens n line)

unfoldable pub script_from : Name → ℕ → List (List ℕ) → Script → Result Script (Refused ScriptKind)
script_from origin n [] s = Ok s
script_from origin n (line ∷ lines) s = script_line origin n line s >>= script_from origin (n + 1) lines

-- where no block is open at the end
abbrev pub while_closed : {A : Type 0} → Option Unfinished → Result A (Refused ScriptKind) → Result A (Refused ScriptKind)
while_closed None next = next
while_closed (Some b) next = refuse b.start OpenBlock

-- the end of a script of which the next line would have a number
abbrev pub finished : ℕ → Script → Result (List (List Command)) (Refused ScriptKind)
finished n s = while_closed s.block (of_worker n s (Ok (lists_of s)))

-- a script of which no line was read
abbrev pub no_lines : Script
no_lines = record { listing = ByWorker; earlier = []; begun = false; commands = []; held = false; block = None }

-- the workers' commands that these lines say, the first of which has a number
unfoldable pub script_of : Name → ℕ → List (List ℕ) → Result (List (List Command)) (Refused ScriptKind)
script_of origin n lines = script_from origin n lines no_lines >>= finished (n + length lines)

-- one list of which no line was read: commands may come at once
abbrev pub no_commands : Script
no_commands = record no_lines { listing = OneList; begun = true }

-- the same of one worker's lines, which come one by one
abbrev pub no_live_lines : Script
no_live_lines = record no_lines { listing = Live; begun = true }

abbrev pub list_finished : Script → Result (List Command) (Refused ScriptKind)
list_finished s = while_closed s.block (Ok s.commands)

-- the one list of commands that these lines say
unfoldable pub list_of : Name → ℕ → List (List ℕ) → Result (List Command) (Refused ScriptKind)
list_of origin n lines = script_from origin n lines no_commands >>= list_finished

-- ---- the two parts of a job

-- the line between zone and script
abbrev pub is_cut : List ℕ → Bool
is_cut line = bytes_eq line (codes "%%")

abbrev pub zone_refused : {A : Type 0} → Result A (Refused ZoneKind) → Result A JobRefusal
zone_refused (Ok x) = Ok x
zone_refused (Err e) = Err (ZoneRefused e)

abbrev pub script_refused : {A : Type 0} → Result A (Refused ScriptKind) → Result A JobRefusal
script_refused (Ok x) = Ok x
script_refused (Err e) = Err (ScriptRefused e)

abbrev pub zone_lines : List ℕ → List (List ℕ)
zone_lines bytes = before_first is_cut (lines_of bytes)

abbrev pub script_lines : List ℕ → List (List ℕ)
script_lines bytes = after_first is_cut (lines_of bytes)

-- the number of the script's first line
abbrev pub script_start : List ℕ → ℕ
script_start bytes = if list_any is_cut (lines_of bytes) then length (zone_lines bytes) + 2 else length (zone_lines bytes) + 1

-- the job that a zone's lines and a script's say, the first of which has a number
unfoldable pub job_of_lines : Name → List (List ℕ) → ℕ → List (List ℕ) → Result Job JobRefusal
job_of_lines origin zone start script = do
  version ← zone_refused (zone_of origin zone)
  workers ← script_refused (script_of origin start script)
  Ok (record { origin = origin; zone = version; workers = workers })

-- the job that bytes say, or the first refusal
abbrev pub job_of : Name → List ℕ → Result Job JobRefusal
job_of origin bytes = job_of_lines origin (zone_lines bytes) (script_start bytes) (script_lines bytes)

-- the same of a script that is one list
unfoldable pub fed_job_of_lines : Name → List (List ℕ) → ℕ → List (List ℕ) → Result FedJob JobRefusal
fed_job_of_lines origin zone start script = do
  version ← zone_refused (zone_of origin zone)
  commands ← script_refused (list_of origin start script)
  Ok (record { origin = origin; zone = version; commands = commands })

abbrev pub fed_job_of : Name → List ℕ → Result FedJob JobRefusal
fed_job_of origin bytes = fed_job_of_lines origin (zone_lines bytes) (script_start bytes) (script_lines bytes)
