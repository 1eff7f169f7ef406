-- What the words of the command line say.
use Rattle.std.specs.Prelude.{ℕ, List, Option, Some, None}
use Rattle.command_line.specs.Invocations.{Invocation, plain_of}
use Rattle.command_line.specs.Parsed.{parsed_of}

abbrev pub or_else : Option Invocation → Option Invocation → Option Invocation
or_else (Some invocation) other = Some invocation
or_else None other = other

-- Plain words say what is written, and all others what clap makes of them; None where the words are refused.
abbrev pub invocation_of : List (List ℕ) → Option Invocation
invocation_of words = or_else (plain_of words) (parsed_of words)
