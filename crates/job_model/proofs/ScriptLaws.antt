-- A fact on scripts that each line keeps is kept by all lines: one induction over lines, phrases and blocks, for whatever fact.
use Rattle.std.proofs.Common.{◌≡◌, ℕ, ◌+◌, ◌<◌, Bool, true, false, cond, List, [], ◌∷◌, ◌++◌, length, Option, Some, None, Result, Ok, Err, refl, ap, subst, ltb-true}
use Rattle.std.specs.Prelude.{nat_lt, not, ◌==◌}
use Rattle.std.specs.List.{AllByRecursion}
use Rattle.zone_model.specs.Names.{Name}
use Rattle.zone_model.specs.Refusals.{Refused, ◌>>=◌}
use Rattle.zone_model.specs.Tokens.{Token}
use Rattle.zone_model.specs.Versions.{Operation}
use Rattle.zone_model.specs.Transactions.{Prerequisite}
use Rattle.job_model.specs.declared.Listing.{Listing}
use Rattle.job_model.specs.declared.Listing.TheVariants.{OneList}
use Rattle.job_model.specs.declared.ScriptKind.{ScriptKind}
use Rattle.job_model.specs.declared.ScriptKind.TheVariants.{NoWorker, BadCommand, NotHeld, AlreadyHeld, TooMany}
use Rattle.job_model.specs.declared.Ending.{Ending}
use Rattle.job_model.specs.declared.Weight.{Weight}
use Rattle.job_model.specs.declared.Question.{Question}
use Rattle.job_model.specs.Commands.{Command, Ask, Hold, AskHeld, Release, Block, Compact, held_after, MayCome, NeedsNoSnapshot}
use Rattle.job_model.specs.Phrases.{Phrase, Worker, Asks, AsksWhole, Holds, AsksHeld, AsksHeldWhole, Releases, Opens, Needs, Adds, Deletes, Ends, Compacts, phrase_of, script_tokens}
use Rattle.job_model.specs.Arguments.{refuse, at_line, prerequisite_of, addition_of, deletion_of}
use Rattle.job_model.specs.Jobs.{Unfinished, Script, lists_of, is_by_worker, has_snapshots, is_live, worker_limit, command_limit, need_limit, operation_limit, of_worker, while_held, while_free, with_room, with_command, with_question, with_held_question, asking, asking_held, holding, released, opened, next_worker, outside, with_asked, with_need, needed_first, with_operation, joined, may_end, inside, may_stand, by_block, taken, tokens_say, script_line, script_from, finished, no_lines, script_of, no_commands, list_finished, list_of}

-- ---- what a line adds

-- a script in which no block is open, and one in which this block is
abbrev pub free : Script → Script
free s = record s { block = None }

abbrev pub busy : Unfinished → Script → Script
busy b s = record s { block = Some b }

-- a command joins
abbrev pub after : Script → Command → Script
after s command = record (with_command s command) { held = held_after s.held command }

-- what is known of a command where it joins a script; it is no block
pub record MayJoin (s : Script) (command : Command) : Type 0 where
  pub turn : MayCome s.held command
  pub place : s.listing ≡ OneList → NeedsNoSnapshot command
  pub room : length s.commands < command_limit

abbrev pub IsLone : Command → Type 0
IsLone (Ask question) = Unit {0}
IsLone Hold = Unit {0}
IsLone (AskHeld question) = Unit {0}
IsLone Release = Unit {0}
IsLone (Block _ asked ending) = ⊥
IsLone Compact = Unit {0}

-- the operation that a phrase says
abbrev pub operation_of : Name → ℕ → Phrase → Result Operation (Refused ScriptKind)
operation_of origin n Worker = refuse n BadCommand
operation_of origin n (Asks asked) = refuse n BadCommand
operation_of origin n (AsksWhole asked) = refuse n BadCommand
operation_of origin n Holds = refuse n BadCommand
operation_of origin n (AsksHeld asked) = refuse n BadCommand
operation_of origin n (AsksHeldWhole asked) = refuse n BadCommand
operation_of origin n Releases = refuse n BadCommand
operation_of origin n (Opens _) = refuse n BadCommand
operation_of origin n (Needs wanted owner rtype) = refuse n BadCommand
operation_of origin n (Adds owner ttl rtype tokens) = addition_of origin n owner ttl rtype tokens
operation_of origin n (Deletes owner rest) = deletion_of origin n owner rest
operation_of origin n (Ends ending) = refuse n BadCommand
operation_of origin n Compacts = refuse n BadCommand

-- the phrase is that of a line
pub record IsOn (origin : Name) (n : ℕ) (line : List ℕ) (phrase : Phrase) : Type 0 where
  pub tokens : List Token
  pub scanned : script_tokens n line ≡ Some tokens
  pub said : phrase_of origin tokens ≡ Some phrase

-- What a fact on scripts has to keep, where of lines something is known: a worker begins, a command joins, a block opens, a prerequisite
-- or an operation joins the block, and the block ends.
pub record IsKept (origin : Name) (Line : List ℕ → Type 0) (Fact : Script → Type 0) : Type 0 where
  pub worker : (s : Script) → Fact (free s) → nat_lt (length (lists_of s)) worker_limit ≡ true → is_by_worker s.listing ≡ true → Fact (next_worker (free s))
  pub command : (s : Script) (command : Command) → Fact (free s) → MayJoin s command → IsLone command → Fact (after (free s) command)
  pub opens : (n : ℕ) (weight : Weight) (s : Script) → Fact (free s) → length s.commands < command_limit → Fact (opened n weight (free s))
  pub need : (b : Unfinished) (s : Script) (need : Prerequisite) → Fact (busy b s) → Fact (with_asked b (busy b s) (record b.asked { needs = b.asked.needs ++ need ∷ [] }))
  pub operation : (n : ℕ) (line : List ℕ) (phrase : Phrase) (b : Unfinished) (s : Script) (operation : Operation) → Line line → IsOn origin n line phrase → operation_of origin n phrase ≡ Ok operation
      → Fact (busy b s) → length b.asked.operations < operation_limit → Fact (with_asked b (busy b s) (record b.asked { operations = b.asked.operations ++ operation ∷ [] }))
  pub block : (b : Unfinished) (s : Script) (ending : Ending) → Fact (busy b s) → Fact (free (after s (Block b.weight b.asked ending)))

-- ---- what is read, where it isn't refused

abbrev Read : Type 0
Read = Result Script (Refused ScriptKind)

abbrev IfRead : (Script → Type 0) → Read → Type 0
IfRead Fact (Ok s) = Fact s
IfRead Fact (Err refusal) = Unit {0}

if_either : (Fact : Script → Type 0) (b : Bool) (x y : Read) → (b ≡ true → IfRead Fact x) → (b ≡ false → IfRead Fact y) → IfRead Fact (cond b x y)
if_either Fact true x y p q = p refl
if_either Fact false x y p q = q refl

if_bound : {A : Type 0} (Fact : Script → Type 0) (r : Result A (Refused ScriptKind)) (f : A → Read) → ((x : A) → r ≡ Ok x → IfRead Fact (f x)) → IfRead Fact (r >>= f)
if_bound Fact (Ok x) f k = k x refl
if_bound Fact (Err refusal) f k = tt

roomy : (Fact : Script → Type 0) (n : ℕ) (s : Script) (next : Read) → (length s.commands < command_limit → IfRead Fact next) → IfRead Fact (with_room n s next)
roomy Fact n s next k = if_either Fact (nat_lt (length s.commands) command_limit) next (refuse n (TooMany command_limit)) (λ room. k (ltb-true (length s.commands) command_limit room)) (λ _. tt)

begun : (Fact : Script → Type 0) (n : ℕ) (s : Script) (next : Read) → IfRead Fact next → IfRead Fact (of_worker n s next)
begun Fact n s next k = if_either Fact s.begun next (refuse n NoWorker) (λ _. k) (λ _. tt)

-- ---- a line outside a block

-- a line that stands only where each worker has a list of its own
pub not_here : (listing : Listing) → is_by_worker listing ≡ true → listing ≡ OneList → ⊥
not_here listing may one = let no : is_by_worker listing ≡ false = ap is_by_worker one in cc

no_snapshots_here : (listing : Listing) → has_snapshots listing ≡ true → listing ≡ OneList → ⊥
no_snapshots_here listing may one = let no : has_snapshots listing ≡ false = ap has_snapshots one in cc

not_live_here : (listing : Listing) → is_live listing ≡ true → listing ≡ OneList → ⊥
not_live_here listing may one = let no : is_live listing ≡ false = ap is_live one in cc

asking_kept : (origin : Name) (Line : List ℕ → Type 0) (Fact : Script → Type 0) → IsKept origin Line Fact → (n : ℕ) (asked : Result Question ScriptKind) (s : Script) → Fact (free s) → IfRead Fact (asking n (free s) asked)
asking_kept origin Line Fact k n asked s so_far =
    begun Fact n (free s) (with_room n (free s) (at_line n asked >>= with_question (free s))) (roomy Fact n (free s) (at_line n asked >>= with_question (free s))
    (λ room. if_bound Fact (at_line n asked) (with_question (free s)) (λ question _. k.command s (Ask question) so_far (record { turn = tt; place = λ _. tt; room = room }) tt)))

asking_held_kept : (origin : Name) (Line : List ℕ → Type 0) (Fact : Script → Type 0) → IsKept origin Line Fact → (n : ℕ) (asked : Result Question ScriptKind) (s : Script) → Fact (free s) → (s.listing ≡ OneList → ⊥)
    → IfRead Fact (asking_held n (free s) asked)
asking_held_kept origin Line Fact k n asked s so_far place =
    begun Fact n (free s) (while_held n (free s) (with_room n (free s) (at_line n asked >>= with_held_question (free s))))
    (if_either Fact s.held (with_room n (free s) (at_line n asked >>= with_held_question (free s))) (refuse n NotHeld)
    (λ held. roomy Fact n (free s) (at_line n asked >>= with_held_question (free s)) (λ room. if_bound Fact (at_line n asked) (with_held_question (free s))
    (λ question _. k.command s (AskHeld question) so_far (record { turn = held; place = place; room = room }) tt))) (λ _. tt))

outside_kept : (origin : Name) (Line : List ℕ → Type 0) (Fact : Script → Type 0) → IsKept origin Line Fact → (n : ℕ) (phrase : Phrase) (s : Script) → Fact (free s) → may_stand s.listing phrase ≡ true
    → IfRead Fact (outside origin n phrase (free s))
outside_kept origin Line Fact k n Worker s so_far may =
    if_either Fact (nat_lt (length (lists_of s)) worker_limit) (Ok (next_worker (free s))) (refuse n (TooMany worker_limit)) (λ room. k.worker s so_far room may) (λ _. tt)
outside_kept origin Line Fact k n (Asks asked) s so_far may = asking_kept origin Line Fact k n asked s so_far
outside_kept origin Line Fact k n (AsksWhole asked) s so_far may = asking_kept origin Line Fact k n asked s so_far
outside_kept origin Line Fact k n Holds s so_far may =
    begun Fact n (free s) (while_free n (free s) (with_room n (free s) (Ok (holding (free s)))))
    (if_either Fact s.held (refuse n AlreadyHeld) (with_room n (free s) (Ok (holding (free s)))) (λ _. tt) (λ none. roomy Fact n (free s) (Ok (holding (free s)))
    (λ room. k.command s Hold so_far (record { turn = none; place = no_snapshots_here s.listing may; room = room }) tt)))
outside_kept origin Line Fact k n (AsksHeld asked) s so_far may = asking_held_kept origin Line Fact k n asked s so_far (no_snapshots_here s.listing may)
outside_kept origin Line Fact k n (AsksHeldWhole asked) s so_far may = asking_held_kept origin Line Fact k n asked s so_far (not_live_here s.listing may)
outside_kept origin Line Fact k n Releases s so_far may =
    begun Fact n (free s) (while_held n (free s) (with_room n (free s) (Ok (released (free s)))))
    (if_either Fact s.held (with_room n (free s) (Ok (released (free s)))) (refuse n NotHeld) (λ held. roomy Fact n (free s) (Ok (released (free s)))
    (λ room. k.command s Release so_far (record { turn = held; place = no_snapshots_here s.listing may; room = room }) tt)) (λ _. tt))
outside_kept origin Line Fact k n (Opens weight) s so_far may =
    begun Fact n (free s) (with_room n (free s) (Ok (opened n weight (free s)))) (roomy Fact n (free s) (Ok (opened n weight (free s))) (λ room. k.opens n weight s so_far room))
outside_kept origin Line Fact k n (Needs wanted owner rtype) s so_far may = tt
outside_kept origin Line Fact k n (Adds owner ttl rtype tokens) s so_far may = tt
outside_kept origin Line Fact k n (Deletes owner rest) s so_far may = tt
outside_kept origin Line Fact k n (Ends ending) s so_far may = tt
outside_kept origin Line Fact k n Compacts s so_far may =
    begun Fact n (free s) (with_room n (free s) (Ok (with_command (free s) Compact))) (roomy Fact n (free s) (Ok (with_command (free s) Compact))
    (λ room. k.command s Compact so_far (record { turn = tt; place = λ _. tt; room = room }) tt))

-- ---- a line inside a block

joined_kept : (Fact : Script → Type 0) (n : ℕ) (b : Unfinished) (s : Script) (r : Result Operation (Refused ScriptKind))
    → ((operation : Operation) → r ≡ Ok operation → length b.asked.operations < operation_limit → IfRead Fact (with_operation b s operation)) → IfRead Fact (joined n b s r)
joined_kept Fact n b s r k =
    if_either Fact (nat_lt (length b.asked.operations) operation_limit) (r >>= with_operation b s) (refuse n (TooMany operation_limit))
    (λ room. if_bound Fact r (with_operation b s) (λ operation e. k operation e (ltb-true (length b.asked.operations) operation_limit room))) (λ _. tt)

needed_kept : (Fact : Script → Type 0) (n : ℕ) (b : Unfinished) (s : Script) (r : Result Prerequisite (Refused ScriptKind)) → ((need : Prerequisite) → IfRead Fact (with_need b s need))
    → IfRead Fact (needed_first n b s r)
needed_kept Fact n b s r k =
    if_either Fact (not (length b.asked.operations == 0)) (refuse n BadCommand) (cond (nat_lt (length b.asked.needs) need_limit) (r >>= with_need b s) (refuse n (TooMany need_limit))) (λ _. tt)
    (λ _. if_either Fact (nat_lt (length b.asked.needs) need_limit) (r >>= with_need b s) (refuse n (TooMany need_limit)) (λ _. if_bound Fact r (with_need b s) (λ need _. k need)) (λ _. tt))

inside_kept : (origin : Name) (Line : List ℕ → Type 0) (Fact : Script → Type 0) → IsKept origin Line Fact → (n : ℕ) (line : List ℕ) (b : Unfinished) (phrase : Phrase) (s : Script)
    → Line line → IsOn origin n line phrase → Fact (busy b s) → IfRead Fact (inside origin n b phrase (busy b s))
inside_kept origin Line Fact k n line b Worker s known on so_far = tt
inside_kept origin Line Fact k n line b (Asks asked) s known on so_far = tt
inside_kept origin Line Fact k n line b (AsksWhole asked) s known on so_far = tt
inside_kept origin Line Fact k n line b Holds s known on so_far = tt
inside_kept origin Line Fact k n line b (AsksHeld asked) s known on so_far = tt
inside_kept origin Line Fact k n line b (AsksHeldWhole asked) s known on so_far = tt
inside_kept origin Line Fact k n line b Releases s known on so_far = tt
inside_kept origin Line Fact k n line b (Opens _) s known on so_far = tt
inside_kept origin Line Fact k n line b (Needs wanted owner rtype) s known on so_far =
    needed_kept Fact n b (busy b s) (prerequisite_of origin n wanted owner rtype) (λ need. k.need b s need so_far)
inside_kept origin Line Fact k n line b (Adds owner ttl rtype tokens) s known on so_far =
    joined_kept Fact n b (busy b s) (addition_of origin n owner ttl rtype tokens) (λ operation e room. k.operation n line (Adds owner ttl rtype tokens) b s operation known on e so_far room)
inside_kept origin Line Fact k n line b (Deletes owner rest) s known on so_far =
    joined_kept Fact n b (busy b s) (deletion_of origin n owner rest) (λ operation e room. k.operation n line (Deletes owner rest) b s operation known on e so_far room)
inside_kept origin Line Fact k n line b (Ends ending) s known on so_far =
    if_either Fact (may_end b.weight ending) (Ok (free (with_command (busy b s) (Block b.weight b.asked ending)))) (refuse n BadCommand) (λ _. k.block b s ending so_far) (λ _. tt)
inside_kept origin Line Fact k n line b Compacts s known on so_far = tt

-- ---- the lines

by_block_kept : (origin : Name) (Line : List ℕ → Type 0) (Fact : Script → Type 0) → IsKept origin Line Fact → (n : ℕ) (line : List ℕ) (phrase : Phrase) (s : Script) (block : Option Unfinished)
    → Line line → IsOn origin n line phrase → Fact (record s { block = block }) → may_stand s.listing phrase ≡ true → IfRead Fact (by_block origin n phrase (record s { block = block }) block)
by_block_kept origin Line Fact k n line phrase s None known on so_far may = outside_kept origin Line Fact k n phrase s so_far may
by_block_kept origin Line Fact k n line phrase s (Some b) known on so_far may = inside_kept origin Line Fact k n line b phrase s known on so_far

taken_kept : (origin : Name) (Line : List ℕ → Type 0) (Fact : Script → Type 0) → IsKept origin Line Fact → (n : ℕ) (line : List ℕ) (s : Script) (said : Option Phrase)
    → Line line → ((phrase : Phrase) → said ≡ Some phrase → IsOn origin n line phrase) → Fact s → IfRead Fact (taken origin n s said)
taken_kept origin Line Fact k n line s None known on so_far = tt
taken_kept origin Line Fact k n line s (Some phrase) known on so_far =
    if_either Fact (may_stand s.listing phrase) (by_block origin n phrase s s.block) (refuse n BadCommand)
    (λ may. by_block_kept origin Line Fact k n line phrase s s.block known (on phrase refl) so_far may) (λ _. tt)

tokens_kept : (origin : Name) (Line : List ℕ → Type 0) (Fact : Script → Type 0) → IsKept origin Line Fact → (n : ℕ) (line : List ℕ) (s : Script) (tokens : Option (List Token))
    → Line line → script_tokens n line ≡ tokens → Fact s → IfRead Fact (tokens_say origin n s tokens)
tokens_kept origin Line Fact k n line s None known e so_far = tt
tokens_kept origin Line Fact k n line s (Some []) known e so_far = so_far
tokens_kept origin Line Fact k n line s (Some (t ∷ tokens)) known e so_far =
    taken_kept origin Line Fact k n line s (phrase_of origin (t ∷ tokens)) known (λ phrase said. record { tokens = t ∷ tokens; scanned = e; said = said }) so_far

line_kept : (origin : Name) (Line : List ℕ → Type 0) (Fact : Script → Type 0) → IsKept origin Line Fact → (n : ℕ) (line : List ℕ) (s : Script) → Line line → Fact s → IfRead Fact (script_line origin n line s)
unfolding script_line
line_kept origin Line Fact k n line s known so_far = tokens_kept origin Line Fact k n line s (script_tokens n line) known refl so_far

after_kept : (Fact : Script → Type 0) (r : Read) (f : Script → Read) → IfRead Fact r → ((s : Script) → Fact s → IfRead Fact (f s)) → IfRead Fact (r >>= f)
after_kept Fact (Ok s) f k next = next s k
after_kept Fact (Err refusal) f k next = tt

-- a script that took a line
pub line_taken : (origin : Name) (Line : List ℕ → Type 0) (Fact : Script → Type 0) → IsKept origin Line Fact → (n : ℕ) (line : List ℕ) (s next : Script) → Line line → Fact s → script_line origin n line s ≡ Ok next → Fact next
line_taken origin Line Fact k n line s next known so_far took = subst (IfRead Fact) took (line_kept origin Line Fact k n line s known so_far)

lines_kept : (origin : Name) (Line : List ℕ → Type 0) (Fact : Script → Type 0) → IsKept origin Line Fact → (n : ℕ) (lines : List (List ℕ)) (s : Script) → AllByRecursion Line lines → Fact s
    → IfRead Fact (script_from origin n lines s)
unfolding script_from
lines_kept origin Line Fact k n [] s known so_far = so_far
lines_kept origin Line Fact k n (line ∷ lines) s known so_far =
    after_kept Fact (script_line origin n line s) (script_from origin (n + 1) lines) (line_kept origin Line Fact k n line s known.0 so_far) (λ next. lines_kept origin Line Fact k (n + 1) lines next known.1)

-- lines of which nothing is asked
abbrev pub AnyLine : List ℕ → Type 0
AnyLine line = Unit {0}

pub any_lines : (lines : List (List ℕ)) → AllByRecursion AnyLine lines
any_lines [] = tt
any_lines (line ∷ lines) = (tt, any_lines lines)

-- ---- the whole

-- the script that a job's workers were read from
pub record IsWhole (Fact : Script → Type 0) (workers : List (List Command)) : Type 0 where
  pub script : Script
  pub fact : Fact (free script)
  pub begun : script.begun ≡ true
  pub lists : workers ≡ script.earlier ++ script.commands ∷ []

abbrev Whole : (Script → Type 0) → Result (List (List Command)) (Refused ScriptKind) → Type 0
Whole Fact (Ok workers) = IsWhole Fact workers
Whole Fact (Err refusal) = Unit {0}

begun_whole : (Fact : Script → Type 0) (n : ℕ) (s : Script) (begun : Bool) → Fact (record s { block = None; begun = begun }) → Whole Fact (of_worker n (record s { begun = begun }) (Ok (lists_of (record s { begun = begun }))))
begun_whole Fact n s true fact = record { script = record s { begun = true }; fact = fact; begun = refl; lists = refl }
begun_whole Fact n s false fact = tt

finished_whole : (Fact : Script → Type 0) (n : ℕ) (s : Script) (block : Option Unfinished) → Fact (record s { block = block }) → Whole Fact (finished n (record s { block = block }))
finished_whole Fact n s None fact = begun_whole Fact n (free s) s.begun fact
finished_whole Fact n s (Some b) fact = tt

end_whole : (Fact : Script → Type 0) (n : ℕ) (r : Read) → IfRead Fact r → Whole Fact (r >>= finished n)
end_whole Fact n (Ok s) fact = finished_whole Fact n s s.block fact
end_whole Fact n (Err refusal) fact = tt

pub script_whole : (origin : Name) (Line : List ℕ → Type 0) (Fact : Script → Type 0) → IsKept origin Line Fact → Fact no_lines
    → (n : ℕ) (lines : List (List ℕ)) (workers : List (List Command)) → AllByRecursion Line lines → script_of origin n lines ≡ Ok workers → IsWhole Fact workers
unfolding script_of
script_whole origin Line Fact k first n lines workers known read =
    subst (Whole Fact) read (end_whole Fact (n + length lines) (script_from origin n lines no_lines) (lines_kept origin Line Fact k n lines no_lines known first))

-- the script that one list was read from
pub record IsWholeList (Fact : Script → Type 0) (commands : List Command) : Type 0 where
  pub script : Script
  pub fact : Fact (free script)
  pub list : commands ≡ script.commands

abbrev WholeList : (Script → Type 0) → Result (List Command) (Refused ScriptKind) → Type 0
WholeList Fact (Ok commands) = IsWholeList Fact commands
WholeList Fact (Err refusal) = Unit {0}

list_finished_whole : (Fact : Script → Type 0) (s : Script) (block : Option Unfinished) → Fact (record s { block = block }) → WholeList Fact (list_finished (record s { block = block }))
list_finished_whole Fact s None fact = record { script = s; fact = fact; list = refl }
list_finished_whole Fact s (Some b) fact = tt

list_end_whole : (Fact : Script → Type 0) (r : Read) → IfRead Fact r → WholeList Fact (r >>= list_finished)
list_end_whole Fact (Ok s) fact = list_finished_whole Fact s s.block fact
list_end_whole Fact (Err refusal) fact = tt

pub list_whole : (origin : Name) (Line : List ℕ → Type 0) (Fact : Script → Type 0) → IsKept origin Line Fact → Fact no_commands
    → (n : ℕ) (lines : List (List ℕ)) (commands : List Command) → AllByRecursion Line lines → list_of origin n lines ≡ Ok commands → IsWholeList Fact commands
unfolding list_of
list_whole origin Line Fact k first n lines commands known read =
    subst (WholeList Fact) read (list_end_whole Fact (script_from origin n lines no_commands) (lines_kept origin Line Fact k n lines no_commands known first))
