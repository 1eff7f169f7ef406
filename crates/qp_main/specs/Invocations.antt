-- What words of the command line say, and what is due for an invocation that they say.
use Rattle.std.specs.Prelude.{ℕ, List, Option, Some, String, map}
use Rattle.std.specs.String.{string_bytes}
use Rattle.command_line.specs.Invocations as lines
use Rattle.command_line.specs.Views.{invocation_view}
use Rattle.command_line.specs.Words.{invocation_of}
use Rattle.command_line.specs.declared.invocation.Invocation.{Invocation}
use Rattle.qp_main.specs.Due.{Due}
use Rattle.qp_main.specs.declared.status.Status.{Status}

-- the invocation that words say, none where they are refused
abbrev pub invocation_in : {Z : Type 0} → List (String Z) → Option lines.Invocation
invocation_in words = invocation_of (map string_bytes words)

-- what is due for an invocation and the bytes that a source has left
abbrev pub DueFor : Invocation → Option (List ℕ) → Status → List ℕ → Type 0
DueFor invocation left = Due (Some (invocation_view invocation)) left
