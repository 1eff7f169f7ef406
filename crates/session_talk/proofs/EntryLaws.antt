-- Entries that are put behind others.
use Rattle.std.proofs.Common.{◌≡◌, ◌∙◌, ℕ, List, [], ◌∷◌, ◌++◌, refl, ap, append-nil, append_assoc, Result, Ok, Err}
use Rattle.std.specs.Prelude.{OnOk}
use Rattle.job_model.specs.Commands.{Command}
use Rattle.job_model.specs.Sessions.{Said, Runs, Refuses, GivesUp, given_up_text, refused_line_text}
use Rattle.job_report.specs.Outcomes.{outcome_text}
use Rattle.job_report.specs.declared.outcomes.Outcome.{Outcome}
use Rattle.session_lines.specs.Printing.{Printing, with_given_up, with_ran, with_refused}
use Rattle.session_talk.specs.Entries.{Entry, Came, Refused, Gave, Ran, Replied, commands_in, outcomes_in, said_in, with_entries, with_entry}

pub commands-append : (xs ys : List Entry) → commands_in (xs ++ ys) ≡ commands_in xs ++ commands_in ys
commands-append [] ys = refl
commands-append (Came command outcome ∷ xs) ys = ap (λ (l : List Command). command ∷ l) (commands-append xs ys)
commands-append (Refused line kind ∷ xs) ys = commands-append xs ys
commands-append (Gave ∷ xs) ys = commands-append xs ys

pub outcomes-append : (xs ys : List Entry) → outcomes_in (xs ++ ys) ≡ outcomes_in xs ++ outcomes_in ys
outcomes-append [] ys = refl
outcomes-append (Came command outcome ∷ xs) ys = ap (λ (l : List Outcome). outcome ∷ l) (outcomes-append xs ys)
outcomes-append (Refused line kind ∷ xs) ys = outcomes-append xs ys
outcomes-append (Gave ∷ xs) ys = outcomes-append xs ys

pub said-append : (xs ys : List Entry) → said_in (xs ++ ys) ≡ said_in xs ++ said_in ys
said-append [] ys = refl
said-append (Came command outcome ∷ xs) ys = ap (λ (l : List Said). Runs command ∷ l) (said-append xs ys)
said-append (Refused line kind ∷ xs) ys = ap (λ (l : List Said). Refuses line kind ∷ l) (said-append xs ys)
said-append (Gave ∷ xs) ys = ap (λ (l : List Said). GivesUp ∷ l) (said-append xs ys)

pub with-append : (p : Printing) (xs ys : List Entry) → with_entries p (xs ++ ys) ≡ with_entries (with_entries p xs) ys
with-append p [] ys = refl
with-append p (e ∷ xs) ys = with-append (with_entry p e) xs ys

-- a command more was run
pub ran-push : (has_run : List Command → List Outcome → Type 0) (xs : List Entry) (command : Command) (outcome : Outcome)
    → has_run (commands_in xs ++ command ∷ []) (outcomes_in xs ++ outcome ∷ []) → Ran has_run (xs ++ Came command outcome ∷ [])
ran-push has_run xs command outcome h = rw (commands-append xs (Came command outcome ∷ []), outcomes-append xs (Came command outcome ∷ [])) h

-- none was
pub ran-same : (has_run : List Command → List Outcome → Type 0) (xs ys : List Entry) → commands_in ys ≡ [] → outcomes_in ys ≡ [] → Ran has_run xs → Ran has_run (xs ++ ys)
ran-same has_run xs ys c o h = rw (commands-append xs ys, outcomes-append xs ys, c, o, append-nil (commands_in xs), append-nil (outcomes_in xs)) h

-- what was said is answered, where that was written down
pub on_replied : {A E : Type 0} (r : Result A E) (has_run : List Command → List Outcome → Type 0) (entries more : List Entry) (said : List Said) (before now : Printing)
    → said_in more ≡ said → Ran has_run (entries ++ more) → OnOk r (now ≡ with_entries before more) → OnOk r (Replied has_run entries said before now)
on_replied (Ok x) has_run entries more said before now same ran e = record { more = more; same = same; ran = ran; printed = e }
on_replied (Err e') has_run entries more said before now same ran e = tt

-- what was written before stands before it
pub with-written : (written : List ℕ) (p : Printing) (entries : List Entry)
    → with_entries (record p { text = written ++ p.text }) entries ≡ record (with_entries p entries) { text = written ++ (with_entries p entries).text }
with-written written p [] = refl
with-written written p (Came command outcome ∷ entries) =
    ap (λ (text : List ℕ). with_entries (record (with_ran p command outcome) { text = text }) entries) (append_assoc written p.text (outcome_text 1 p.next outcome)) ∙ with-written written (with_ran p command outcome) entries
with-written written p (Refused line kind ∷ entries) =
    ap (λ (text : List ℕ). with_entries (record (with_refused p line kind) { text = text }) entries) (append_assoc written p.text (refused_line_text line kind)) ∙ with-written written (with_refused p line kind) entries
with-written written p (Gave ∷ entries) =
    ap (λ (text : List ℕ). with_entries (record (with_given_up p) { text = text }) entries) (append_assoc written p.text (given_up_text p.next p.seen)) ∙ with-written written (with_given_up p) entries
