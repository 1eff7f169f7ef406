-- What a session has read and written.
use Rattle.std.specs.Prelude.{◌≡◌, ◌⊎◌, ◌<◌, ◌^◌, ℕ, Bool, List, [], ◌++◌, length, take}
use Rattle.zone_model.specs.Names.{Name}
use Rattle.job_model.specs.Commands.{Command}
use Rattle.job_model.specs.Sessions.{Session, left_open}
use Rattle.job_report.specs.declared.outcomes.Outcome.{Outcome}
use Rattle.outer_io.specs.Bytes.{Grows, GrowsByFront, Held}
use Rattle.session_lines.specs.Printing.{Printing}
use Rattle.session_lines.specs.Taking.{IsUnbroken}
use Rattle.session_talk.specs.Entries.{Entry, commands_in, outcomes_in, said_in, with_entries}
use Rattle.session_talk.specs.Answering.{AnswersLines, EndsLines, IsFed, SoFar, Way}

-- A transaction that is still open was refused, where no more lines come.
pub record LeftOpen (s : Session) (before now : Printing) : Type 0 where
  pub more : List Entry
  pub same : said_in more ≡ left_open s.opened s.block
  pub no_commands : commands_in more ≡ []
  pub no_outcomes : outcomes_in more ≡ []
  pub printed : now ≡ with_entries before more

-- Whole lines behind a session's beginning were answered, and other bytes were taken. What was written lies in the sink.
pub record AtWork (has_run : List Command → List Outcome → Type 0) (way : Way) (given : List ℕ) (held : Held)
    (s : Session) (p : Printing) (lines : ℕ) (pending : List ℕ) : Type 0 where
  pub done : List ℕ
  pub written : List ℕ
  pub fed : IsFed done
  pub gave : given ≡ (way.given ++ done) ++ pending
  pub grew : Grows way.held held written
  pub so_far : SoFar has_run way.opened way.first done written s p lines

-- All lines that came were answered, the last of which may have no line feed.
pub record LinesDone (has_run : List Command → List Outcome → Type 0) (way : Way) (given : List ℕ) (held : Held)
    (s : Session) (p : Printing) (lines : ℕ) : Type 0 where
  pub done : List ℕ
  pub written : List ℕ
  pub gave : given ≡ way.given ++ done
  pub grew : Grows way.held held written
  pub so_far : SoFar has_run way.opened way.first done written s p lines

-- The replies to all whole lines lie in the sink, and nothing else.
pub record Settled (way : Way) (given : List ℕ) (held : Held) : Type 0 where
  pub done : List ℕ
  pub rest : List ℕ
  pub fed : IsFed done
  pub unbroken : IsUnbroken rest
  pub gave : given ≡ (way.given ++ done) ++ rest
  pub text : List ℕ
  pub answers : AnswersLines way.opened way.first done text
  pub grew : Grows way.held held text

-- All lines were answered, of which there come no more, and the last line was written.
pub record Finished (way : Way) (refused : Bool) (given : List ℕ) (held : Held) : Type 0 where
  pub all : List ℕ
  pub gave : given ≡ way.given ++ all
  pub text : List ℕ
  pub ends : EndsLines way.opened way.first all refused text
  pub grew : Grows way.held held text

-- A line came, with its line feed, that is longer than lines may be. The replies to those before it lie in the sink.
pub record IsTooLong (way : Way) (given : List ℕ) (held : Held) : Type 0 where
  pub done : List ℕ
  pub rest : List ℕ
  pub fed : IsFed done
  pub long : IsUnbroken (take (2 ^ 24) rest)
  pub over : 2 ^ 24 < length rest
  pub gave : given ≡ (way.given ++ done) ++ rest
  pub text : List ℕ
  pub answers : AnswersLines way.opened way.first done text
  pub grew : Grows way.held held text

-- the text is due for these lines, whether or not more come
abbrev pub IsDue : Way → List ℕ → List ℕ → Type 0
IsDue way lines text = AnswersLines way.opened way.first lines text ⊎ ((refused : Bool) × EndsLines way.opened way.first lines refused text)

-- A front of what is due for the first of the bytes lies in the sink.
pub record Stands (way : Way) (given : List ℕ) (held : Held) : Type 0 where
  pub lines : List ℕ
  pub rest : List ℕ
  pub gave : given ≡ (way.given ++ lines) ++ rest
  pub text : List ℕ
  pub due : IsDue way lines text
  pub grew : GrowsByFront way.held held text

-- A talk lets more be asked for where the replies to all whole lines lie in the sink.
abbrev pub MayTalk : (List ℕ → List ℕ → Type 0) → Way → Type 0
MayTalk is_settled way = (given : List ℕ) (held : Held) → Settled way given held → is_settled given held.taken

pub record MayServe (is_settled : List ℕ → List ℕ → Type 0) (has_run : Way → List Command → List Outcome → Type 0)
    (origin : List (List ℕ)) (given : List ℕ) (held : Held) (s : Session) (p : Printing) (lines : ℕ) (pending : List ℕ) : Type 0 where
  pub way : Way
  pub same : way.opened.origin ≡ origin
  pub at_work : AtWork (has_run way) way given held s p lines pending
  pub may : MayTalk is_settled way

-- A session begins so: its worker has run nothing, and what was given behind its beginning are bytes that were taken.
pub record BeginsAt (has_run : List Command → List Outcome → Type 0) (way : Way) (origin : Name) (first names : ℕ)
    (given : List ℕ) (held : Held) (pending : List ℕ) : Type 0 where
  pub ran : has_run [] []
  pub origin_is : way.opened.origin ≡ origin
  pub first_is : way.first ≡ first
  pub names_are : length way.opened.zone ≡ names
  pub gave : given ≡ way.given ++ pending
  pub held_is : way.held ≡ held
