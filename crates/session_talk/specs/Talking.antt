-- What a session asks for, and what it leaves, where it asks a talk for more.
use Rattle.std.specs.Prelude.{◌≡◌, ◌⊎◌, ◌<◌, ◌≤◌, ◌+◌, ◌^◌, ℕ, Bool, true, false, List, Result, Ok, IfOk, IsErrOf, IsTrue, OnErr, OnOk, length}
use Rattle.zone_model.specs.Names.{Name}
use Rattle.job_model.specs.Commands.{Command}
use Rattle.job_report.specs.declared.outcomes.Outcome.{Outcome}
use Rattle.outer_io.specs.Bytes.{Held}
use Rattle.outer_io.specs.Faults.{Blames}
use Rattle.session_lines.specs.Taking.{IsUnbroken, NextIsShort, Pending}
use Rattle.session_talk.specs.declared.answering.Answering.{Answering}
use Rattle.session_talk.specs.declared.serving.Stop.{Stop}
use Rattle.session_talk.specs.declared.serving.Stop.TheVariants as stop
use Rattle.session_talk.specs.Answering.{Way}
use Rattle.session_talk.specs.Between.{CanGoOn, IsAtWork, MayGoOn}
use Rattle.session_talk.specs.Serving.{BeginsAt, Finished, IsTooLong, MayTalk, Settled, Stands}
use Rattle.session_talk.specs.Workers.{Opened}

-- ---- what it asks for

module _ {Y : Type 0} (is_ready : Y → Type 0) (origin_of : Y → Name) (holds : Y → Bool) (has_run : Y → Opened → List Command → List Outcome → Type 0)
    (is_settled : List ℕ → List ℕ → Type 0) where
  -- It can answer the lines that are there, and ask for more.
  pub record CanTurn (a : Answering Y) (given : List ℕ) (held : Held) (intake : Pending) : Type 0 where
    pub sound : CanGoOn is_ready origin_of holds a
    -- the lines' numbers can be counted
    pub few : a.lines + length intake.bytes < 2 ^ 63
    pub may : MayGoOn has_run is_settled a given held intake.bytes

  -- It can go on to the end of input, or to the 2^46th read.
  pub record CanReadAll (a : Answering Y) (given : List ℕ) (told : Bool) (held : Held) (intake : Pending) : Type 0 where
    pub sound : CanGoOn is_ready origin_of holds a
    -- the lines' numbers can be counted, whatever the reads give
    pub few : a.lines + length intake.bytes ≤ 2 ^ 26
    -- where the end of input was met the talk told it
    pub ended : intake.ended ≡ true → IsTrue told
    pub may : MayGoOn has_run is_settled a given held intake.bytes

  -- The same where the end of input may have been met.
  pub record CanReadOn (a : Answering Y) (given : List ℕ) (held : Held) (intake : Pending) : Type 0 where
    pub sound : CanGoOn is_ready origin_of holds a
    -- the lines' numbers can be counted, whatever the reads give
    pub few : a.lines + length intake.bytes ≤ 2 ^ 26
    pub may : intake.ended ≡ false → MayGoOn has_run is_settled a given held intake.bytes

  -- A session can begin over a worker, and read to the end.
  pub record CanServe (worker : Y) (origin : Name) (number names : ℕ) (given : List ℕ) (held : Held) (intake : Pending) : Type 0 where
    -- lines are counted from one
    pub first : 0 < number
    pub ready : is_ready worker
    -- the worker is of the session's zone
    pub same : origin_of worker ≡ origin
    -- it holds no snapshot
    pub free : holds worker ≡ false
    -- the lines' numbers can be counted, whatever the reads give
    pub few : number + length intake.bytes ≤ 2 ^ 26
    -- if the end of input wasn't met, the talk lets more be asked for where all that is due lies in the sink
    pub may : intake.ended ≡ false → (way : Way)
        × BeginsAt (has_run worker way.opened) way origin number names given held intake.bytes × MayTalk is_settled way

-- ---- what it leaves

module _ {Y : Type 0} (is_ready : Y → Type 0) (origin_of : Y → Name) (holds : Y → Bool) where
  -- It answered lines, and took more bytes.
  pub record HasTurned (a a_now : Answering Y) (old new : Pending) : Type 0 where
    pub sound : CanGoOn is_ready origin_of holds a_now
    -- each line has a byte at least, and a read gives 65,536 at most
    pub few : a_now.lines + length new.bytes ≤ a.lines + length old.bytes + 65536
    -- it is of the same zone
    pub origin : a_now.origin ≡ a.origin

  -- It came to the end of input, or to the 2^46th read.
  pub record HasRead (a a_now : Answering Y) (new : Pending) (given : List ℕ) (told : Bool) : Type 0 where
    pub sound : CanGoOn is_ready origin_of holds a_now
    -- the lines' numbers can be counted
    pub few : a_now.lines + length new.bytes < 2 ^ 63
    -- it is of the same zone
    pub origin : a_now.origin ≡ a.origin
    -- each read gave something
    pub ended : IsTrue told ⊎ (2 ^ 46 ≤ length given)

module _ {Z X : Type 0} (given_of : Z → List ℕ) (ended_of : Z → Bool) (talk_faults : Z → ℕ) (sink_faults : X → ℕ) where
  -- The lines that were there were answered, and a read was tried once if more may come.
  pub record TellsTurn (result : Result Bool Stop) (old new : Pending) (t t_now : Z) (s s_now : X) : Type 0 where
    -- where no more may come, the end of input was met before
    pub over : result ≡ Ok false → IsUnbroken new.bytes × (old.ended ≡ true) × (ended_of t_now ≡ ended_of t)
    -- a read gives something, or is the last
    pub more : result ≡ Ok true → new.ended ≡ false → length (given_of t) < length (given_of t_now)
    pub begun : result ≡ Ok true → old.ended ≡ false
    -- where the end of input was met the talk told it
    pub ended : OnOk result (old.ended ≡ false → new.ended ≡ true → IsTrue (ended_of t_now))
    -- a line that memory was wanted for isn't too long
    pub memory : IsErrOf result stop.Memory → NextIsShort new.bytes
    pub sink : Blames result stop.Sink (sink_faults s) (sink_faults s_now)
    pub talk : Blames result stop.Fault (talk_faults t) (talk_faults t_now)

-- It was read until the end of input was told, or 2^46 bytes came; not at all where that was told before.
pub record ReadsToEnd {A E Z : Type 0} (result : Result A E) (talk_error : E) (was_told : Bool) (t t_now : Z) (given : List ℕ) (told : Bool) : Type 0 where
  pub unread : was_told ≡ true → (t_now ≡ t) × (IsErrOf result talk_error → ⊥)
  pub ended : was_told ≡ false → OnOk result (IsTrue told ⊎ (2 ^ 46 ≤ length given))

-- ---- what was answered then

module _ {Y Z X : Type 0} (has_run : Y → Opened → List Command → List Outcome → Type 0) (given_of : Z → List ℕ) (held_of : X → Held) where
  -- Lines were answered, and more came.
  pub record ServesOn {A : Type 0} (result : Result A Stop) (a a_now : Answering Y) (t t_now : Z) (s s_now : X)
      (old new : Pending) : Type 0 where
    pub ok : (way : Way) → way.opened.origin ≡ a.origin.now → IsAtWork has_run a way (given_of t) (held_of s) old.bytes
        → OnOk result (IsAtWork has_run a_now way (given_of t_now) (held_of s_now) new.bytes)
    -- a front of what is due lies in the sink, also where that fails
    pub stands : (way : Way) → way.opened.origin ≡ a.origin.now → IsAtWork has_run a way (given_of t) (held_of s) old.bytes
        → Stands way (given_of t) (held_of s) → Stands way (given_of t_now) (held_of s_now)
    -- all replies do where the talk failed
    pub settled : IsErrOf result stop.Fault → (way : Way) → way.opened.origin ≡ a.origin.now
        → IsAtWork has_run a way (given_of t) (held_of s) old.bytes → Settled way (given_of t_now) (held_of s_now)
    -- the replies to those before a line that is too long do
    pub too_long : IsErrOf result stop.TooLong → (way : Way) → way.opened.origin ≡ a.origin.now
        → IsAtWork has_run a way (given_of t) (held_of s) old.bytes → IsTooLong way (given_of t_now) (held_of s_now)

  -- All lines were answered, and the last line was written.
  pub record ServesToEnd (result : Result Bool Stop) (a : Answering Y) (t t_now : Z) (s s_now : X) (old : Pending) : Type 0 where
    pub ok : (way : Way) → way.opened.origin ≡ a.origin.now → IsAtWork has_run a way (given_of t) (held_of s) old.bytes
        → IfOk result (λ refused. Finished way refused (given_of t_now) (held_of s_now))
    -- a front of what is due lies in the sink, where they weren't
    pub stands : (way : Way) → way.opened.origin ≡ a.origin.now → IsAtWork has_run a way (given_of t) (held_of s) old.bytes
        → Stands way (given_of t) (held_of s) → OnErr result (Stands way (given_of t_now) (held_of s_now))
    -- all replies do where the talk failed
    pub settled : IsErrOf result stop.Fault → (way : Way) → way.opened.origin ≡ a.origin.now
        → IsAtWork has_run a way (given_of t) (held_of s) old.bytes → Settled way (given_of t_now) (held_of s_now)
    -- the replies to those before a line that is too long do
    pub too_long : IsErrOf result stop.TooLong → (way : Way) → way.opened.origin ≡ a.origin.now
        → IsAtWork has_run a way (given_of t) (held_of s) old.bytes → IsTooLong way (given_of t_now) (held_of s_now)

  -- A session that began over a worker answered all lines, and its last line was written.
  pub record Serves (result : Result Bool Stop) (worker : Y) (origin : Name) (number names : ℕ) (t t_now : Z) (s s_now : X)
      (old : Pending) : Type 0 where
    pub ok : (way : Way) → BeginsAt (has_run worker way.opened) way origin number names (given_of t) (held_of s) old.bytes
        → IfOk result (λ refused. Finished way refused (given_of t_now) (held_of s_now))
    -- a front of what is due lies in the sink, where they weren't; or nothing was read or written
    pub stands : (way : Way) → BeginsAt (has_run worker way.opened) way origin number names (given_of t) (held_of s) old.bytes
        → OnErr result (Stands way (given_of t_now) (held_of s_now) ⊎ ((given_of t_now ≡ given_of t) × (held_of s_now ≡ held_of s)))
    -- all replies do where the talk failed
    pub settled : IsErrOf result stop.Fault → (way : Way)
        → BeginsAt (has_run worker way.opened) way origin number names (given_of t) (held_of s) old.bytes → Settled way (given_of t_now) (held_of s_now)
    -- the replies to those before a line that is too long do
    pub too_long : IsErrOf result stop.TooLong → (way : Way)
        → BeginsAt (has_run worker way.opened) way origin number names (given_of t) (held_of s) old.bytes → IsTooLong way (given_of t_now) (held_of s_now)
