-- How far a session has come.
use Rattle.std.specs.Prelude.{◌≡◌, ◌⊎◌, ◌≤◌, ◌+◌, ℕ, Bool, List, [], ◌∷◌, ◌++◌, length}
use Rattle.zone_model.specs.Lines.{lines_of}
use Rattle.zone_model.specs.Names.{Name, IsName}
use Rattle.job_model.specs.Commands.{Command}
use Rattle.job_model.specs.Sessions.{Answered, Ended, Session, all_said, first_session, session_lines}
use Rattle.job_report.specs.declared.outcomes.Outcome.{Outcome}
use Rattle.outer_io.specs.Bytes.{Held}
use Rattle.report_laws.specs.Changes.{IsBlock}
use Rattle.session_lines.specs.Printing.{Printing}
use Rattle.session_talk.specs.Entries.{Entry, at_ready, commands_in, outcomes_in, said_in, with_entries}
use Rattle.session_talk.specs.Workers.{Opened}

-- nothing, or a line feed stands at the end
abbrev pub IsFed : List ℕ → Type 0
IsFed bytes = (bytes ≡ []) ⊎ ((front : List ℕ) × (bytes ≡ front ++ 10 ∷ []))

-- What is so of a session between two lines: the worker can go on, holds a snapshot where the session does, and is of its origin; what is open is as
-- scripts say it; and there were no more commands than lines.
pub record IsSound (ready : Type 0) (origin worker_origin : Name) (holds : Bool) (s : Session) (next lines : ℕ) : Type 0 where
  pub fit : ready
  pub name : IsName origin
  pub same : worker_origin ≡ origin
  pub held : holds ≡ s.held
  pub block : IsBlock origin s.block
  pub few : next ≤ lines + 1

-- Lines of which the first has a number were answered: this has been written, and is to be written. A worker has run the commands.
pub record SoFar (has_run : List Command → List Outcome → Type 0) (o : Opened) (first : ℕ) (done written : List ℕ)
    (s : Session) (p : Printing) (lines : ℕ) : Type 0 where
  pub lines_are : lines + 1 ≡ first + length (lines_of done)
  pub session : (session_lines o.origin first (lines_of done) first_session).session ≡ s
  pub entries : List Entry
  pub said : (session_lines o.origin first (lines_of done) first_session).said ≡ said_in entries
  pub ran : has_run (commands_in entries) (outcomes_in entries)
  pub printed : record p { text = written ++ p.text } ≡ with_entries (at_ready o.zone) entries

-- the text is due for whole lines, the first of which has a number
abbrev pub AnswersLines : Opened → ℕ → List ℕ → List ℕ → Type 0
AnswersLines o first done text = Answered o.chunks o.origin o.zone (session_lines o.origin first (lines_of done) first_session).said text

-- the same where no more come
abbrev pub EndsLines : Opened → ℕ → List ℕ → Bool → List ℕ → Type 0
EndsLines o first all refused text = Ended o.chunks o.origin o.zone (all_said (session_lines o.origin first (lines_of all) first_session)) refused text

-- Where a session begins: what had been read before, up to its first line, and held; that line's number; and what its index was opened with.
pub record Way : Type 0 where
  pub given : List ℕ
  pub held : Held
  pub first : ℕ
  pub opened : Opened
