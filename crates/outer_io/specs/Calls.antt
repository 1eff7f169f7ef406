-- The calls of an object in memory, which are numbered from 1.
use Rattle.std.specs.Prelude.{ℕ, ◌+◌, ◌-◌, ◌^◌, List, min}

pub record Calls : Type 0 where
  -- the numbers of the calls that fail
  pub fails : List ℕ
  -- how many were made
  pub made : ℕ
  -- how many of them failed
  pub faults : ℕ

-- one more, up to the last value of a 64-bit counter
abbrev pub next_count : ℕ → ℕ
next_count n = min (n + 1) (2 ^ 64 - 1)
