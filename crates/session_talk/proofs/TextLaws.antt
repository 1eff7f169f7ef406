-- What was printed is the text of the replies.
use Rattle.std.proofs.Common.{◌≡◌, ◌∙◌, ℕ, ◌+◌, Bool, true, false, cond, List, [], ◌∷◌, ◌++◌, length, map, refl, sym, ap, append_assoc, append-nil}
use Rattle.zone_model.specs.Names.{Name}
use Rattle.zone_model.specs.Versions.{Version}
use Rattle.job_model.specs.Commands.{Command, Ask, Hold, AskHeld, Release, Block, Compact}
use Rattle.job_model.specs.Outcomes.{Pair, WorkerProgress, all_pairs, at_first, is_refused, progress_after, version_at}
use Rattle.job_model.specs.Reports.{end_text, head_text}
use Rattle.job_model.specs.Sessions.{Answered, Ended, Replied, Said, Runs, Refuses, GivesUp, given_up_text, pairs_in, refused_line_text, refuses_some, replies_text, said_of, session_text, versions_in}
use Rattle.job_report.specs.Outcomes.{EachTells, ended_view, outcome_view, outcome_text, pairs_of}
use Rattle.job_report.proofs.ReportLemmas.{command_told}
use Rattle.session_lines.specs.Printing.{Printing, seen_after, with_given_up, with_ran, with_refused}
use Rattle.session_talk.specs.Entries.{Entry, Came, Refused, Gave, at_ready, commands_in, outcomes_in, replies_in, said_in, with_entries}
use Rattle.session_talk.specs.Workers.{ComesTo, EndsAt, Opened}
use Rattle.session_talk.specs.declared.worker.LastVersion.{LastVersion}

pairs-in : (entries : List Entry) → pairs_in (replies_in entries) ≡ pairs_of (commands_in entries) (outcomes_in entries)
pairs-in [] = refl
pairs-in (Came command outcome ∷ entries) = ap (λ (l : List Pair). (command, outcome_view outcome) ∷ l) (pairs-in entries)
pairs-in (Refused line kind ∷ entries) = pairs-in entries
pairs-in (Gave ∷ entries) = pairs-in entries

said-of : (entries : List Entry) → map said_of (replies_in entries) ≡ said_in entries
said-of [] = refl
said-of (Came command outcome ∷ entries) = ap (λ (l : List Said). Runs command ∷ l) (said-of entries)
said-of (Refused line kind ∷ entries) = ap (λ (l : List Said). Refuses line kind ∷ l) (said-of entries)
said-of (Gave ∷ entries) = ap (λ (l : List Said). GivesUp ∷ l) (said-of entries)

seen-is : (progress : WorkerProgress) (command : Command) (v seen : ℕ) → progress.seen ≡ seen → (progress_after progress command v).seen ≡ seen_after seen command v
seen-is progress (Ask question) v seen e = refl
seen-is progress Hold v seen e = refl
seen-is progress (AskHeld question) v seen e = e
seen-is progress Release v seen e = e
seen-is progress (Block _ asked ending) v seen e = refl
seen-is progress Compact v seen e = refl

text-from : (origin : Name) (set : ℕ → Version) (progress : WorkerProgress) (p : Printing) (entries : List Entry) → progress.seen ≡ p.seen → EachTells origin set (commands_in entries) (outcomes_in entries)
    → (with_entries p entries).text ≡ p.text ++ replies_text origin set p.next progress (replies_in entries)
text-from origin set progress p [] e t = sym (append-nil p.text)
text-from origin set progress p (Came command outcome ∷ entries) e t =
    let rest = text-from origin set (progress_after progress command outcome.version) (with_ran p command outcome) entries (seen-is progress command outcome.version p.seen e) t.1 in
    rest ∙ append_assoc p.text (outcome_text 1 p.next outcome) _
    ∙ ap (λ (x : List ℕ). p.text ++ (head_text 1 p.next outcome.version ++ x ++ replies_text origin set (p.next + 1) (progress_after progress command outcome.version) (replies_in entries))) (sym (command_told origin set command outcome t.0))
text-from origin set progress p (Refused line kind ∷ entries) e t =
    text-from origin set progress (with_refused p line kind) entries e t ∙ append_assoc p.text (refused_line_text line kind) _
text-from origin set progress p (Gave ∷ entries) e t =
    text-from origin set progress (with_given_up p) entries e t ∙ append_assoc p.text (given_up_text p.next p.seen) _
    ∙ ap (λ (v : ℕ). p.text ++ (given_up_text p.next v ++ replies_text origin set (p.next + 1) progress (replies_in entries))) (sym e)

-- whether anything was refused
refused-from : (p : Printing) (entries : List Entry) → (with_entries p entries).refused ≡ cond (refuses_some (replies_in entries)) true p.refused
refused-from p [] = refl
refused-from p (Came command outcome ∷ entries) = refused-from (with_ran p command outcome) entries ∙ both (is_refused (ended_view outcome.told)) (refuses_some (replies_in entries))
  where
    both : (a b : Bool) → cond b true (cond a true p.refused) ≡ cond (cond a true b) true p.refused
    both true true = refl
    both true false = refl
    both false b = refl
refused-from p (Refused line kind ∷ entries) = refused-from (with_refused p line kind) entries ∙ always (refuses_some (replies_in entries))
  where
    always : (b : Bool) → cond b true true ≡ true
    always true = refl
    always false = refl
refused-from p (Gave ∷ entries) = refused-from (with_given_up p) entries ∙ always (refuses_some (replies_in entries))
  where
    always : (b : Bool) → cond b true true ≡ true
    always true = refl
    always false = refl

-- ---- the whole

abbrev set_in : Opened → List Entry → ℕ → Version
set_in o entries = versions_in o.origin o.zone (replies_in entries)

same_set : (o : Opened) (entries : List Entry) → version_at o.origin o.zone (all_pairs (pairs_of (commands_in entries) (outcomes_in entries) ∷ [])) ≡ set_in o entries
same_set o entries = ap (λ (pairs : List Pair). version_at o.origin o.zone (all_pairs (pairs ∷ []))) (sym (pairs-in entries))

lawful : (o : Opened) (entries : List Entry) (said : List Said) (last : ℕ) → said ≡ said_in entries → ComesTo o (commands_in entries) (outcomes_in entries) last → Replied o.chunks o.origin o.zone said (replies_in entries) last
lawful o entries said last is h = record { same = said-of entries ∙ sym is; lawful = rw (pairs-in entries) h.lawful }

text_is : (o : Opened) (entries : List Entry) (last : ℕ) → ComesTo o (commands_in entries) (outcomes_in entries) last → (with_entries (at_ready o.zone) entries).text ≡ session_text o.origin o.zone (replies_in entries)
text_is o entries last h = text-from o.origin (set_in o entries) at_first (at_ready o.zone) entries refl (rw (← same_set o entries) h.tell)

pub answers : (o : Opened) (entries : List Entry) (said : List Said) (text : List ℕ) (last : ℕ) → said ≡ said_in entries → ComesTo o (commands_in entries) (outcomes_in entries) last
    → text ≡ (with_entries (at_ready o.zone) entries).text → Answered o.chunks o.origin o.zone said text
answers o entries said text last is h t = record { replies = replies_in entries; last = last; replied = lawful o entries said last is h; is = t ∙ text_is o entries last h }

pub ends : (o : Opened) (entries : List Entry) (said : List Said) (refused : Bool) (text : List ℕ) (last : LastVersion) → said ≡ said_in entries → EndsAt o (commands_in entries) (outcomes_in entries) last
    → refused ≡ (with_entries (at_ready o.zone) entries).refused → text ≡ (with_entries (at_ready o.zone) entries).text ++ end_text last.version last.names → Ended o.chunks o.origin o.zone said refused text
ends o entries said refused text last is h r t = record {
  replies = replies_in entries;
  last = last.version;
  replied = lawful o entries said last.version is h.comes_to;
  some_refused = r ∙ refused-from (at_ready o.zone) entries ∙ same (refuses_some (replies_in entries));
  is = t ∙ ap (λ (x : List ℕ). x ++ end_text last.version last.names) (text_is o entries last.version h.comes_to)
      ∙ ap (λ (n : ℕ). session_text o.origin o.zone (replies_in entries) ++ end_text last.version n) (h.names_are ∙ ap (λ (set : ℕ → Version). length (set last.version)) (same_set o entries));
}
  where
    same : (b : Bool) → cond b true false ≡ b
    same true = refl
    same false = refl
