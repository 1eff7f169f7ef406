-- Scripts as the definitions see them.
use Rattle.std.specs.Prelude.{◌≡◌, ◌≢◌, ◌≤◌, ℕ, Bool, true, false, if◌then◌else◌, List, ◌∷◌, length, map, drop, Some, None, Result, Ok, Err}
use Rattle.std.specs.Option.{option_map}
use Rattle.zone_model.specs.Names.{Name}
use Rattle.zone_model.specs.Refusals.{Refused, ◌>>=◌}
use Rattle.zone_model.specs.Lines.{lines_of}
use Rattle.zone_model.specs.declared.ZoneKind.TheVariants.{Memory}
use Rattle.zone_text.specs.Places.{first_line}
use Rattle.zone_text.specs.Tokens.{token_view}
use Rattle.zone_text.specs.declared.refusal.ZoneRefusal.{ZoneRefusal}
use Rattle.zone_text.specs.declared.single_lines.LexedLine.{LexedLine}
use Rattle.job_model.specs.Arguments.{at_line}
use Rattle.job_model.specs.Jobs as jobs
use Rattle.job_model.specs.Phrases.{script_tokens}
use Rattle.job_model.specs.declared.Listing.{Listing}
use Rattle.job_model.specs.declared.Listing.TheVariants.{ByWorker, OneList, Live}
use Rattle.job_model.specs.declared.Question.{Question}
use Rattle.job_model.specs.declared.ScriptKind.{ScriptKind}
use Rattle.job_model.specs.declared.ScriptKind.TheVariants.{BadCommand}
use Rattle.job_script.specs.Views.{command_view, workers_view}
use Rattle.zone_change.specs.Views.{operation_view, prerequisite_view}
use Rattle.job_script.specs.declared.phrases.Phrase.{Phrase}
use Rattle.job_script.specs.declared.phrases.Phrase.TheVariants as phrase
use Rattle.job_script.specs.declared.script.Script.{Script}
use Rattle.job_script.specs.declared.script.Unfinished.{Unfinished}
use Rattle.job_script.specs.declared.refusal.JobRefusal.{JobRefusal}
use Rattle.job_script.specs.declared.refusal.JobRefusal.TheVariants as stops

abbrev pub unfinished_view : Unfinished → jobs.Unfinished
unfinished_view b = record {
  start = b.start;
  weight = b.weight;
  asked = record { needs = map prerequisite_view b.needs.items; operations = map operation_view b.operations.items };
}

abbrev pub script_view : Script → jobs.Script
script_view s = record {
  listing = s.listing;
  earlier = workers_view s.earlier.items;
  begun = s.begun;
  commands = map command_view s.commands.items;
  held = s.held;
  block = option_map unfinished_view s.block;
}

-- a script of which no line was read
abbrev pub first_script : Listing → jobs.Script
first_script ByWorker = jobs.no_lines
first_script OneList = jobs.no_commands
first_script Live = jobs.no_live_lines

-- a question joins the worker's commands where there is room: to the snapshot that is held, or to the current version
abbrev pub with_asked : ℕ → Bool → Result Question ScriptKind → jobs.Script → Result jobs.Script (Refused ScriptKind)
with_asked n held asked s = jobs.with_room n s (at_line n asked >>= (if held then jobs.with_held_question s else jobs.with_question s))

-- a value is the one wanted, or the refusal is; want of memory says nothing
abbrev pub Says : {R A : Type 0} → Result R JobRefusal → (R → A) → Result A (Refused ScriptKind) → Type 0
Says (Ok r) view wanted = wanted ≡ Ok (view r)
Says (Err stops.Memory) view wanted = Unit {0}
Says (Err (stops.Refused line kind)) view wanted = wanted ≡ Err (record { line = line; kind = kind })

-- a script has come as far as is wanted
abbrev pub ScriptReads : {R S : Type 0} → Result R JobRefusal → S → Result S (Refused ScriptKind) → Type 0
ScriptReads result new wanted = Says result (λ r. new) wanted

-- it isn't told as want of memory
abbrev pub IsTold : {R : Type 0} → Result R JobRefusal → Type 0
IsTold (Ok r) = Unit {0}
IsTold (Err stops.Memory) = ⊥
IsTold (Err (stops.Refused line kind)) = Unit {0}

-- A block has as many prerequisites, or operations, as it may have, and the line says one more.
abbrev pub IsOneTooMany : Unfinished → Phrase → Type 0
IsOneTooMany block (phrase.Needs wanted owner rtype) = jobs.need_limit ≤ length block.needs.items
IsOneTooMany block (phrase.Adds owner ttl rtype rest) = jobs.operation_limit ≤ length block.operations.items
IsOneTooMany block (phrase.Deletes owner rest) = jobs.operation_limit ≤ length block.operations.items
IsOneTooMany block _ = ⊥

-- a test lets a line pass, or the line is refused
abbrev pub Passes : Result (Unit {0}) JobRefusal → Bool → ℕ → ScriptKind → Type 0
Passes (Ok r) test line kind = test ≡ true
Passes (Err refusal) test line kind = (test ≡ false) × (refusal ≡ stops.Refused line kind)

-- a line whose tokens were refused is no command, but where memory was wanting for them
abbrev pub IsNoCommand : ZoneRefusal → ℕ → JobRefusal → Type 0
IsNoCommand e line stops.Memory = e.kind ≡ Memory
IsNoCommand e line (stops.Refused n kind) = (e.kind ≢ Memory) × (n ≡ line) × (kind ≡ BadCommand)

-- a line was cut into tokens, and the others begin at a place; or it is refused
abbrev pub LineReads : Result LexedLine JobRefusal → List ℕ → ℕ → ℕ → Type 0
LineReads (Ok l) bytes at line =
    (lines_of (drop at bytes) ≡ first_line (drop at bytes) ∷ lines_of (drop l.next bytes)) × (script_tokens line (first_line (drop at bytes)) ≡ Some (map (token_view bytes) l.tokens.items))
LineReads (Err stops.Memory) bytes at line = Unit {0}
LineReads (Err (stops.Refused n kind)) bytes at line =
    (rest : List (List ℕ)) × (lines_of (drop at bytes) ≡ first_line (drop at bytes) ∷ rest) × (script_tokens line (first_line (drop at bytes)) ≡ None) × (n ≡ line) × (kind ≡ BadCommand)

-- one line was taken, which says this, and the others begin at a place
abbrev pub LineSteps : {S : Type 0} → Result ℕ JobRefusal → List ℕ → ℕ → (List ℕ → Result S (Refused ScriptKind)) → S → Type 0
LineSteps (Ok next) bytes at says new = (text : List ℕ) × (lines_of (drop at bytes) ≡ text ∷ lines_of (drop next bytes)) × (says text ≡ Ok new)
LineSteps (Err stops.Memory) bytes at says new = Unit {0}
LineSteps (Err (stops.Refused n kind)) bytes at says new = (text : List ℕ) × (rest : List (List ℕ)) × (lines_of (drop at bytes) ≡ text ∷ rest) × (says text ≡ Err (record { line = n; kind = kind }))

-- the same of a line of a job's script
abbrev pub ScriptSteps : Result ℕ JobRefusal → List ℕ → ℕ → ℕ → Name → jobs.Script → jobs.Script → Type 0
ScriptSteps result bytes at line origin old new = LineSteps result bytes at (λ text. jobs.script_line origin line text old) new
