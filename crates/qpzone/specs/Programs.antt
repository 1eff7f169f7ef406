-- What the program does with the words that it was started with.
use Rattle.std.specs.Prelude.{◌≡◌, ℕ, List, [], None, Bool, Result, Ok, Err, String}
use Rattle.std.specs.Vec.Iter.{into_iter_items}
use Rattle.std.specs.declared.vec.IntoIter.{IntoIter}
use Rattle.outer_io.specs.Bytes.{Held}
use Rattle.qp_main.specs.Prelude.{CutShort, Due, GaveFor, IsSession, IsUnwritten, IsWritten, MayBeShort, SaysSession, SessionRan, Written, invocation_in, streams}
use Rattle.qp_main.specs.declared.status.Status.{Status}

-- What was written is due for the words: whole under a status that says so, a front of it where the sink failed or a dump ran out of
-- memory, and else nothing. In a session it is due for the bytes that were given, by each way to end.
pub record Ran {Z : Type 0} (words : List (String Z)) (given given' : List ℕ) (ended : Bool) (held held' : Held) (status : Status) : Type 0 where
  pub whole : IsWritten status → GaveFor (invocation_in words) given given' ended (λ left. Written (Due (invocation_in words) left) held held' status)
  pub front : MayBeShort (streams (invocation_in words)) status → (held' ≡ held → ⊥) → GaveFor (invocation_in words) given given' ended (λ left. CutShort (Due (invocation_in words) left) held held')
  pub unwritten : (IsSession (invocation_in words) → ⊥) → IsUnwritten (streams (invocation_in words)) status → held' ≡ held
  pub session : SaysSession (invocation_in words) (λ asked origin. SessionRan asked origin given given' ended held held' status)
  pub refused : status ≡ Status.WordsRefused → invocation_in words ≡ None

-- the words, where the runtime gives them: it gives none where one of them isn't UTF-8
abbrev pub words_in : {Z E : Type 0} → Result (IntoIter (String Z) Z) E → List (String Z)
words_in (Ok args) = into_iter_items args
words_in (Err e) = []
