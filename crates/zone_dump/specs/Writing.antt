-- Text that goes to a sink by way of a buffer.
use Rattle.std.specs.Prelude.{◌≡◌, ◌≤◌, ℕ, List, ◌++◌, Result, OnOk, OnErr, IsErrOf}
use Rattle.outer_io.specs.Bytes.{Held, Grows, GrowsByFront}
use Rattle.outer_io.specs.Faults.{Rose}
use Rattle.zone_dump.specs.declared.refusal.DumpRefusal.{DumpRefusal}
use Rattle.zone_dump.specs.declared.refusal.DumpRefusal.TheVariants.{Fault}

-- Text came behind what the buffer had. Some of all that was written to the sink, and the buffer has the rest.
pub record Passes (old new : Held) (had has text : List ℕ) : Type 0 where
  pub written : List ℕ
  pub grown : Grows old new written
  pub whole : had ++ text ≡ written ++ has

-- of a whole text this much is left to come
pub record PassesPart (old new : Held) (had has whole left : List ℕ) : Type 0 where
  pub text : List ℕ
  pub passed : Passes old new had has text
  pub rest : text ++ left ≡ whole

-- what becomes of text that is to pass
pub record PassesOn {A E : Type 0} (result : Result A E) (old new : Held) (had has text : List ℕ) : Type 0 where
  -- all of it came behind what the buffer had
  pub ok : OnOk result (Passes old new had has text)
  -- with a refusal the sink has taken a front of what the buffer had and of the text
  pub err : OnErr result (GrowsByFront old new (had ++ text))

-- ---- what the sink's count of faults says

-- of a call that writes
pub record TellsFailed {A E : Type 0} (result : Result A E) (old new : ℕ) : Type 0 where
  -- where all was written no call on the sink failed
  pub quiet : OnOk result (new ≡ old)
  -- the count never falls
  pub later : old ≤ new
  -- where it failed so did a call on the sink
  pub failed : OnErr result (Rose old new)

-- of a dump
pub record TellsFault {A : Type 0} (result : Result A DumpRefusal) (old new : ℕ) : Type 0 where
  -- a fault is told only where a call on the sink failed
  pub fault : IsErrOf result Fault → Rose old new
  -- the count never falls
  pub later : old ≤ new
  -- where none is told no call failed
  pub quiet : (IsErrOf result Fault → ⊥) → new ≡ old
