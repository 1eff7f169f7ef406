-- What serving an invocation does to a source and a sink.
use Rattle.std.specs.Prelude.{◌≡◌, ◌≤◌, ◌^◌, ℕ, Bool, List, length, Option, None}
use Rattle.outer_io.specs.Bytes.{GivesBytes, Held}
use Rattle.job_model.specs.Loads.{Load, made_origin}
use Rattle.zone_model.specs.Names.{Name}
use Rattle.command_line.specs.Invocations.{Invocation, Make, Verb}
use Rattle.job_commands.specs.Calls.{Call}
use Rattle.qp_main.specs.Due.{AnswersLines, CutShort, Due, EndsLoad, GaveFor, IsMade, IsSession, IsUnwritten, IsWritten, MayBeShort, Written, streams}
use Rattle.qp_main.specs.Faults.{TellsSink, TellsSource}
use Rattle.qp_main.specs.Heard.{HasRun, Heard}
use Rattle.qp_main.specs.Sessions.{SaysSession, SessionRan}
use Rattle.qp_main.specs.declared.status.Status.{Status}
use Rattle.qp_main.specs.declared.status.Status.TheVariants as status

-- ---- an input that is there

-- an input that is answered whole
pub record IsInput (verb : Verb) (bytes : List ℕ) : Type 0 where
  -- it is within the limit
  pub short : length bytes ≤ 2 ^ 24
  -- its lines aren't answered one by one
  pub whole : AnswersLines verb → ⊥

-- a load's text is made, under the origin of loads
pub record IsLoad (verb : Verb) (origin : Name) (load : Load) : Type 0 where
  -- it is this load's
  pub made : verb ≡ Make load
  -- its names are under the origin of their own
  pub under : origin ≡ made_origin

-- what is due for an input was written, by the status
pub record ServesDue (streamed : Bool) (due : Status → List ℕ → Type 0) (old new : Held) (s : Status) : Type 0 where
  -- whole, where the status says so
  pub written : IsWritten s → Written due old new s
  -- up to some place, where it says that the sink failed, or that memory ran out while what is due was made
  pub cut_short : MayBeShort streamed s → CutShort due old new
  -- it doesn't say that a source failed
  pub others : s ≡ status.SourceFault → ⊥

-- what is due for a load was written, whatever a source has left
pub record ServesLoad (due : Option (List ℕ) → Status → List ℕ → Type 0) (old new : Held) (s : Status) : Type 0 where
  -- whole, where the status says so
  pub written : (left : Option (List ℕ)) → IsWritten s → Written (due left) old new s
  -- up to some place, where the sink failed
  pub cut_short : (left : Option (List ℕ)) → s ≡ status.SinkFault → CutShort (due left) old new
  -- nothing, where no memory was left
  pub unwritten : s ≡ status.NoMemory → new ≡ old

-- ---- by a source and a sink

-- What was written whole is due.
pub record WritesDue {S K : Type 0} (o : Option Invocation) (left : S → Option (List ℕ)) (gave : S → List ℕ) (ended : S → Bool) (held : K → Held)
    (before after : S) (old new : K) (s : Status) : Type 0 where
  -- for the bytes that the source tells beforehand
  pub written : IsWritten s → Written (Due o (left before)) (held old) (held new) s
  -- and for those that it gave in this call, which are all up to its end, whether or not it tells any
  pub given : IsWritten s → GaveFor o (gave before) (gave after) (ended after) (λ bytes. Written (Due o bytes) (held old) (held new) s)

-- Where the sink failed, or memory ran out under what is written while it is made, the sink has a prefix of what was due.
pub record CutsShort {S K : Type 0} (o : Option Invocation) (left : S → Option (List ℕ)) (gave : S → List ℕ) (ended : S → Bool) (held : K → Held)
    (before after : S) (old new : K) (s : Status) : Type 0 where
  -- for the bytes that the source tells beforehand
  pub cut_short : MayBeShort (streams o) s → CutShort (Due o (left before)) (held old) (held new)
  -- and, where anything was written, for those that it gave in this call
  pub given_short : MayBeShort (streams o) s → (held new ≡ held old → ⊥)
      → GaveFor o (gave before) (gave after) (ended after) (λ bytes. CutShort (Due o bytes) (held old) (held new))

-- what a status says of a run, whose words were read so
pub record EndsRun {S K : Type 0} (o : Option Invocation) (left : S → Option (List ℕ)) (gave : S → List ℕ) (ended : S → Bool) (trouble : S → ℕ)
    (held : K → Held) (faults : K → ℕ) (before after : S) (old new : K) (s : Status) : Type 0 where
  -- what was due may stand in part
  pub short : CutsShort o left gave ended held before after old new s
  -- whether a call on the sink failed
  pub sink : TellsSink faults old new s
  -- whether one on the source did
  pub source : TellsSource trouble before after s
  -- but in a session nothing was written where the source failed, nor where memory ran out, but under what is written while it is made
  pub unwritten : (IsSession o → ⊥) → IsUnwritten (streams o) s → held new ≡ held old
  -- refused words leave the source as it is
  pub unread : o ≡ None → after ≡ before
  -- no other words are told to be refused
  pub words : s ≡ status.WordsRefused → o ≡ None
  -- a load leaves the source as it is too
  pub made : IsMade o → after ≡ before
  -- neither its zone nor its script is refused
  pub load : IsMade o → EndsLoad s
  -- but in a session an input that is too long is read to one byte past the limit
  pub taken : (IsSession o → ⊥) → s ≡ status.TooLong → GivesBytes left gave before after 16777217

-- where commands were run, the gate was told of each that the bytes say which the source gave in this call
abbrev pub HearsRun : {S : Type 0} → (Call → Type 0) → Option Invocation → (S → List ℕ) → (S → Bool) → S → S → Status → Type 0
HearsRun hears o gave ended before after s = HasRun s → GaveFor o (gave before) (gave after) (ended after) (λ left. Heard hears o left)

-- in a session what lies in the sink is due for the bytes that the source gave in this call
abbrev pub RunsSession : {S K : Type 0} → Option Invocation → (S → List ℕ) → (S → Bool) → (K → Held) → S → S → K → K → Status → Type 0
RunsSession o gave ended held before after old new s =
    SaysSession o (λ asked origin. SessionRan asked origin (gave before) (gave after) (ended after) (held old) (held new) s)
