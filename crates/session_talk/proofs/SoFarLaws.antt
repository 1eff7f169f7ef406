-- A session that was answered one line further.
use Rattle.std.proofs.Common.{◌≡◌, ◌∙◌, ℕ, ◌+◌, ◌≤◌, Bool, List, [], ◌∷◌, ◌++◌, length, Result, Ok, Err, sym, ap, arith, subst, length-append}
use Rattle.std.specs.Prelude.{OnOk}
use Rattle.zone_model.specs.Names.{Name, IsName}
use Rattle.zone_model.specs.Lines.{lines_of}
use Rattle.job_model.specs.Commands.{Command}
use Rattle.job_model.specs.Sessions.{Said, Session, Step, first_session, session_line, session_lines, step_of}
use Rattle.job_report.specs.declared.outcomes.Outcome.{Outcome}
use Rattle.report_laws.specs.Changes.{IsBlock}
use Rattle.report_laws.specs.Octets.{AllOctets}
use Rattle.session_lines.specs.Printing.{Printing}
use Rattle.session_lines.specs.Well.{RunsWell, StepsWell}
use Rattle.session_lines.proofs.SoundLaws.{line_well}
use Rattle.session_talk.specs.Answering.{IsFed, IsSound, SoFar}
use Rattle.session_talk.specs.Entries.{Replied, at_ready, said_in, with_entries}
use Rattle.session_talk.specs.Workers.{Opened}
use Rattle.session_talk.proofs.EntryLaws.{said-append, with-append, with-written}
use Rattle.session_talk.proofs.FedLaws.{lines_behind}
use Rattle.session_talk.proofs.LineLaws.{said-push, session-push, step_behind}

-- what the line says may be run
pub said_well : (origin worker_origin : Name) (holds : Bool) (n : ℕ) (text : List ℕ) (s new : Session) (said : List Said) → IsName origin → worker_origin ≡ origin → holds ≡ s.held → IsBlock origin s.block
    → AllOctets text → session_line origin n text s ≡ step_of new said → RunsWell worker_origin holds new.held said × IsBlock origin new.block
said_well origin worker_origin holds n text s new said name same held block octets e =
    let w : StepsWell origin s (step_of new said) = subst (StepsWell origin s) e (line_well origin n text s name octets block) in
    (rw (same, held) w.runs, w.block)

pub on_sound : {A E : Type 0} (r : Result A E) (ready : Type 0) (origin before after : Name) (holds : Bool) (s : Session) (old next lines : ℕ) → OnOk r ready → IsName origin → before ≡ origin → OnOk r (after ≡ before) → OnOk r (holds ≡ s.held)
    → IsBlock origin s.block → OnOk r (next ≤ old + 1) → old ≤ lines + 1 → OnOk r (IsSound ready origin after holds s next (lines + 1))
on_sound (Ok x) ready origin before after holds s old next lines fit name same kept held block more few = record { fit = fit; name = name; same = kept ∙ same; held = held; block = block; few = omega arith }
on_sound (Err e) ready origin before after holds s old next lines fit name same kept held block more few = tt

module _ (ran_before ran_now : List Command → List Outcome → Type 0) (o : Opened) (first : ℕ) (done line text written : List ℕ) (s new : Session) (said : List Said) (p now : Printing) (lines : ℕ) (origin : Name)
    (same : o.origin ≡ origin) (fed : IsFed done) (one : lines_of line ≡ text ∷ []) (h : SoFar ran_before o first done written s p lines) (stepped : session_line origin (lines + 1) text s ≡ step_of new said) where
  all_lines : lines_of (done ++ line) ≡ lines_of done ++ text ∷ []
  all_lines = lines_behind done line fed ∙ ap (λ (l : List (List ℕ)). lines_of done ++ l) one

  this_step : step_behind o.origin first (lines_of done) text first_session ≡ step_of new said
  this_step = let n = h.lines_are in let i = h.session in cc

  more_so_far : Replied ran_now h.entries said p now → SoFar ran_now o first (done ++ line) written new now (lines + 1)
  more_so_far r = record {
    lines_are = omega (arith, h.lines_are, ap {B = ℕ} (λ l. length l) all_lines, length-append (lines_of done) (text ∷ []));
    session = ap (λ (l : List (List ℕ)). (session_lines o.origin first l first_session).session) all_lines ∙ session-push o.origin first (lines_of done) text first_session ∙ ap (λ (x : Step). x.session) this_step;
    entries = h.entries ++ r.more;
    said = ap (λ (l : List (List ℕ)). (session_lines o.origin first l first_session).said) all_lines ∙ said-push o.origin first (lines_of done) text first_session
        ∙ ap (λ (x : Step). (session_lines o.origin first (lines_of done) first_session).said ++ x.said) this_step
        ∙ ap (λ (l : List Said). l ++ said) h.said ∙ ap (λ (l : List Said). said_in h.entries ++ l) (sym r.same) ∙ sym (said-append h.entries r.more);
    ran = r.ran;
    printed = ap (λ (x : Printing). record x { text = written ++ x.text }) r.printed ∙ sym (with-written written p r.more) ∙ ap (λ (x : Printing). with_entries x r.more) h.printed ∙ sym (with-append (at_ready o.zone) h.entries r.more);
  }

  pub on_so_far : {A E : Type 0} (r : Result A E) → OnOk r (Replied ran_now h.entries said p now) → OnOk r (SoFar ran_now o first (done ++ line) written new now (lines + 1))
  on_so_far (Ok x) e = more_so_far e
  on_so_far (Err e') e = tt
