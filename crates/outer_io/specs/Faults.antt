-- When a fault may be answered.
use Rattle.std.specs.Prelude.{◌≡◌, ℕ, ◌+◌, ◌-◌, ◌^◌, ◌≤◌, min, Result, IsErrOf}

-- a count of faults has risen, or stands at the last value of a 64-bit counter
abbrev pub Rose : ℕ → ℕ → Type 0
Rose before now = min (before + 1) (2 ^ 64 - 1) ≤ now

-- A call blames a stream, whose faults are counted, by one of its errors.
pub record Blames {A E : Type 0} (result : Result A E) (error : E) (before now : ℕ) : Type 0 where
  -- with any other end it met no fault of it
  pub quiet : (IsErrOf result error → ⊥) → now ≡ before
  -- with this error it met one
  pub failed : IsErrOf result error → Rose before now

-- A call blames a sink by one of its errors, and a talk by another.
pub record BlamesEach {A E : Type 0} (result : Result A E) (sink_error talk_error : E) (sink_before sink_now talk_before talk_now : ℕ) : Type 0 where
  pub sink : Blames result sink_error sink_before sink_now
  pub talk : Blames result talk_error talk_before talk_now
