-- What a gate is told of workers.
use Rattle.std.specs.Prelude.{ℕ, List, [], ◌∷◌, length}
use Rattle.job_commands.specs.Calls.{Call, AreHeard, next_number}
use Rattle.zones_model.specs.Commands.{Command}

-- of all commands of workers, the first of whom has a number
abbrev pub AllHeard : (Call → Type 0) → ℕ → List (List Command) → Type 0
AllHeard hears worker [] = Unit {0}
AllHeard hears worker (commands ∷ others) = AreHeard hears worker (length commands) × AllHeard hears (next_number worker) others
