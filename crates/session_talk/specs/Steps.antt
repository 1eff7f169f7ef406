-- What the steps of a session ask for, and what they leave.
use Rattle.std.specs.Prelude.{◌≡◌, ◌<◌, ◌≤◌, ◌+◌, ◌^◌, ℕ, Bool, List, [], ◌∷◌, ◌++◌, Some, Result, IfOk, IsErrOf, OnErr, OnOk, length}
use Rattle.zone_model.specs.Lines.{lines_of}
use Rattle.zone_model.specs.Names.{Name}
use Rattle.job_model.specs.Commands.{Command}
use Rattle.job_report.specs.declared.outcomes.Outcome.{Outcome}
use Rattle.outer_io.specs.Bytes.{Grows, GrowsByFront, Held}
use Rattle.outer_io.specs.Faults.{Rose}
use Rattle.session_lines.specs.Taking.{IsUnbroken, NextIsShort, Pending, line_end}
use Rattle.session_talk.specs.declared.answering.Answering.{Answering}
use Rattle.session_talk.specs.declared.serving.Stop.{Stop}
use Rattle.session_talk.specs.declared.serving.Stop.TheVariants as stop
use Rattle.session_talk.specs.Answering.{AnswersLines, Way}
use Rattle.session_talk.specs.Between.{CanGoOn, HasAnswered, IsAtWork, IsThrough}
use Rattle.session_talk.specs.Serving.{Finished, IsTooLong, Settled, Stands}
use Rattle.session_talk.specs.Workers.{Opened}

-- ---- what becomes of the text and of the bytes

-- A text was written whole, or a front of it where the sink failed.
pub record Writes {A E : Type 0} (result : Result A E) (text : List ℕ) (before now : Held) (faults faults_now : ℕ) : Type 0 where
  pub ok : OnOk result (Grows before now text)
  pub err : OnErr result (GrowsByFront before now text)
  -- a failure is a fault of the sink, and there is no other
  pub failed : OnErr result (Rose faults faults_now)
  pub quiet : OnOk result (faults_now ≡ faults)

-- The next line was let go of.
pub record TakesNext {A : Type 0} (result : Result A Stop) (old new : Pending) : Type 0 where
  pub rest : OnOk result (length new.bytes < length old.bytes)
  -- no byte is asked for
  pub ended : new.ended ≡ old.ended
  pub others : (IsErrOf result stop.Fault → ⊥) × (IsErrOf result stop.TooLong → ⊥)
  -- where memory was wanted the line is still there
  pub kept : IsErrOf result stop.Memory → new ≡ old

-- All whole lines were let go of.
pub record TakesLines {A : Type 0} (result : Result A Stop) (old new : Pending) : Type 0 where
  pub rest : OnOk result (IsUnbroken new.bytes)
  -- no byte is asked for
  pub ended : new.ended ≡ old.ended
  pub others : IsErrOf result stop.Fault → ⊥
  -- a line that memory was wanted for isn't too long
  pub memory : IsErrOf result stop.Memory → NextIsShort new.bytes

-- ---- what a session can be asked for, and how it goes on

module _ {Y : Type 0} (is_ready : Y → Type 0) (origin_of : Y → Name) (holds : Y → Bool) where
  -- A session can answer these bytes.
  pub record CanAnswer (a : Answering Y) (line : List ℕ) : Type 0 where
    pub sound : CanGoOn is_ready origin_of holds a
    -- their number can be counted
    pub few : a.lines < 2 ^ 63
    pub some : 0 < length line
    pub short : length line ≤ 2 ^ 24
    -- they are one line
    pub one : (text : List ℕ) × (lines_of line ≡ text ∷ [])

  -- It can answer the next line, which has so many bytes.
  pub record CanAnswerNext (a : Answering Y) (intake : Pending) (count : ℕ) : Type 0 where
    pub sound : CanGoOn is_ready origin_of holds a
    -- its number can be counted
    pub few : a.lines < 2 ^ 63
    pub found : line_end intake.bytes ≡ Some count
    pub short : count ≤ 2 ^ 24

  -- It can answer all lines that are there.
  pub record CanAnswerLines (a : Answering Y) (intake : Pending) : Type 0 where
    pub sound : CanGoOn is_ready origin_of holds a
    -- their numbers can be counted
    pub few : a.lines + length intake.bytes < 2 ^ 63

  -- It can answer what is left as the last line, and end.
  pub record CanFinish (a : Answering Y) (intake : Pending) : Type 0 where
    pub sound : CanGoOn is_ready origin_of holds a
    -- the line's number can be counted
    pub few : a.lines < 2 ^ 63
    -- there is no line feed
    pub rest : IsUnbroken intake.bytes

  -- It goes on behind line n.
  pub record GoesOn (a a_now : Answering Y) (n : ℕ) : Type 0 where
    pub sound : CanGoOn is_ready origin_of holds a_now
    pub lines : a_now.lines ≡ n
    -- it is of the same zone
    pub origin : a_now.origin ≡ a.origin

  -- It goes on behind lines that are let go of.
  pub record GoesOnBehind (a a_now : Answering Y) (old new : Pending) : Type 0 where
    pub sound : CanGoOn is_ready origin_of holds a_now
    -- each line has a byte at least
    pub few : a_now.lines + length new.bytes ≤ a.lines + length old.bytes
    -- it is of the same zone
    pub origin : a_now.origin ≡ a.origin

  -- It has nothing to write, or has failed to write it.
  pub record HasPut {A E : Type 0} (result : Result A E) (a a_now : Answering Y) : Type 0 where
    pub sound : OnOk result (CanGoOn is_ready origin_of holds a_now)
    -- it stands behind the same line of the same zone
    pub lines : a_now.lines ≡ a.lines
    pub origin : a_now.origin ≡ a.origin
    pub nothing : OnOk result (a_now.replies.text.items ≡ [])

-- ---- what was answered then

module _ {Y : Type 0} (has_run : Y → Opened → List Command → List Outcome → Type 0) where
  -- What was to be written answers the lines, and is written.
  pub record PutsAnswers {A E : Type 0} (result : Result A E) (a a_now : Answering Y) : Type 0 where
    -- also where the sink fails it was due
    pub answers : (o : Opened) (first : ℕ) (done written : List ℕ) → HasAnswered has_run a o first done written
        → AnswersLines o first done (written ++ a.replies.text.items)
    pub so_far : (o : Opened) (first : ℕ) (done written : List ℕ) → HasAnswered has_run a o first done written
        → OnOk result (HasAnswered has_run a_now o first done (written ++ a.replies.text.items))

  -- Nothing is answered or taken meanwhile.
  pub record StaysAtWork {A E : Type 0} (result : Result A E) (a a_now : Answering Y) (held held_now : Held) : Type 0 where
    pub ok : (way : Way) (given pending : List ℕ) → IsAtWork has_run a way given held pending
        → OnOk result (IsAtWork has_run a_now way given held_now pending)
    -- a front of what is due lies in the sink, also where that fails
    pub stands : (way : Way) (given pending : List ℕ) → IsAtWork has_run a way given held pending
        → Stands way given held → Stands way given held_now

  module _ {A : Type 0} (result : Result A Stop) (a a_now : Answering Y) (held held_now : Held) (old new : Pending) where
    -- A line more is answered.
    pub record AnswersNext : Type 0 where
      pub ok : (way : Way) (given : List ℕ) → way.opened.origin ≡ a.origin.now → IsAtWork has_run a way given held old.bytes
          → OnOk result (IsAtWork has_run a_now way given held_now new.bytes)
      -- a front of what is due lies in the sink, also where that fails
      pub stands : (way : Way) (given : List ℕ) → way.opened.origin ≡ a.origin.now → IsAtWork has_run a way given held old.bytes
          → Stands way given held → Stands way given held_now

    -- All whole lines are answered, and the replies lie in the sink.
    pub record AnswersDue : Type 0 where
      pub ok : (way : Way) (given : List ℕ) → way.opened.origin ≡ a.origin.now → IsAtWork has_run a way given held old.bytes
          → OnOk result (IsAtWork has_run a_now way given held_now new.bytes)
      pub settled : (way : Way) (given : List ℕ) → way.opened.origin ≡ a.origin.now → IsAtWork has_run a way given held old.bytes
          → OnOk result (Settled way given held_now)
      -- a line that isn't whole may be too long by now
      pub long : (way : Way) (given : List ℕ) → way.opened.origin ≡ a.origin.now → IsAtWork has_run a way given held old.bytes
          → OnOk result (2 ^ 24 < length new.bytes → IsTooLong way given held_now)
      -- a front of what is due lies in the sink, also where that fails
      pub stands : (way : Way) (given : List ℕ) → way.opened.origin ≡ a.origin.now → IsAtWork has_run a way given held old.bytes
          → Stands way given held → Stands way given held_now
      -- the replies to those before a line that is too long do
      pub too_long : (way : Way) (given : List ℕ) → way.opened.origin ≡ a.origin.now → IsAtWork has_run a way given held old.bytes
          → IsErrOf result stop.TooLong → IsTooLong way given held_now

  module _ (result : Result Bool Stop) (a : Answering Y) (held held_now : Held) where
    -- Behind all lines that came the last line is written.
    pub record EndsThere : Type 0 where
      pub ok : (way : Way) (given : List ℕ) → IsThrough has_run a way given held → IfOk result (λ refused. Finished way refused given held_now)
      -- a front of what is due lies in the sink, where it isn't
      pub stands : (way : Way) (given : List ℕ) → IsThrough has_run a way given held → Stands way given held → OnErr result (Stands way given held_now)

    -- The lines that are there are answered, and the last line is written.
    pub record EndsBehind (intake : Pending) : Type 0 where
      pub ok : (way : Way) (given : List ℕ) → way.opened.origin ≡ a.origin.now → IsAtWork has_run a way given held intake.bytes
          → IfOk result (λ refused. Finished way refused given held_now)
      -- a front of what is due lies in the sink, where they aren't
      pub stands : (way : Way) (given : List ℕ) → way.opened.origin ≡ a.origin.now → IsAtWork has_run a way given held intake.bytes
          → Stands way given held → OnErr result (Stands way given held_now)
      -- the replies to those before a line that is too long do
      pub too_long : (way : Way) (given : List ℕ) → way.opened.origin ≡ a.origin.now → IsAtWork has_run a way given held intake.bytes
          → IsErrOf result stop.TooLong → IsTooLong way given held_now
