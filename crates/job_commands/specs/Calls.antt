-- What a gate is told.
use Rattle.std.specs.Prelude.{ℕ, ◌+◌, ◌<◌, List, [], ◌∷◌, length, min}
use Rattle.job_model.specs.Commands.{Command}

-- a worker's command comes, or was run; both are counted from 1
pub data Call : Type 0 where
  Before : (worker command : ℕ) → Call
  After : (worker command : ℕ) → Call

-- the number behind one, up to the last that there is
abbrev pub next_number : ℕ → ℕ
next_number n = min (n + 1) 4294967295

-- the gate was told of a command ahead of it and behind it
abbrev pub IsHeard : (Call → Type 0) → ℕ → ℕ → Type 0
IsHeard hears worker command = hears (Before worker command) × hears (After worker command)

-- of so many commands at the beginning of a worker's list
abbrev pub AreHeard : (Call → Type 0) → ℕ → ℕ → Type 0
AreHeard hears worker many = (place : ℕ) → place < many → IsHeard hears worker (next_number place)

-- of all commands of workers, the first of whom has a number
abbrev pub AllHeard : (Call → Type 0) → ℕ → List (List Command) → Type 0
AllHeard hears worker [] = Unit {0}
AllHeard hears worker (commands ∷ others) = AreHeard hears worker (length commands) × AllHeard hears (next_number worker) others
