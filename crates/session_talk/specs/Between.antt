-- A session between two lines.
use Rattle.std.specs.Prelude.{ℕ, Bool, List}
use Rattle.zone_model.specs.Names.{Name}
use Rattle.job_model.specs.Commands.{Command}
use Rattle.job_report.specs.declared.outcomes.Outcome.{Outcome}
use Rattle.outer_io.specs.Bytes.{Held}
use Rattle.session_lines.specs.Printing.{printing}
use Rattle.session_lines.specs.Views.{session_view}
use Rattle.session_talk.specs.declared.answering.Answering.{Answering}
use Rattle.session_talk.specs.Answering.{IsSound, SoFar, Way}
use Rattle.session_talk.specs.Serving.{AtWork, LinesDone, MayServe}
use Rattle.session_talk.specs.Workers.{Opened}

module _ {Y : Type 0} where
  -- it can take a line
  abbrev pub CanGoOn : (Y → Type 0) → (Y → Name) → (Y → Bool) → Answering Y → Type 0
  CanGoOn is_ready origin holds a = IsSound (is_ready a.worker) a.origin.now (origin a.worker) (holds a.worker) (session_view a.session) a.replies.next a.lines

  module _ (has_run : Y → Opened → List Command → List Outcome → Type 0) where
    -- it answered lines of which the first has a number, and this was written
    abbrev pub HasAnswered : Answering Y → Opened → ℕ → List ℕ → List ℕ → Type 0
    HasAnswered a o first done written = SoFar (has_run a.worker o) o first done written (session_view a.session) (printing a.replies) a.lines

    -- it answered whole lines, and other bytes were taken
    abbrev pub IsAtWork : Answering Y → Way → List ℕ → Held → List ℕ → Type 0
    IsAtWork a way given held pending = AtWork (has_run a.worker way.opened) way given held (session_view a.session) (printing a.replies) a.lines pending

    -- it answered all lines that came
    abbrev pub IsThrough : Answering Y → Way → List ℕ → Held → Type 0
    IsThrough a way given held = LinesDone (has_run a.worker way.opened) way given held (session_view a.session) (printing a.replies) a.lines

    -- it may ask a talk of such a rule for more
    abbrev pub MayGoOn : (List ℕ → List ℕ → Type 0) → Answering Y → List ℕ → Held → List ℕ → Type 0
    MayGoOn is_settled a given held pending =
        MayServe is_settled (λ way. has_run a.worker way.opened) a.origin.now given held (session_view a.session) (printing a.replies) a.lines pending
