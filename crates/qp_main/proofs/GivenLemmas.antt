-- What is due for the bytes that a source gave.
use Rattle.std.proofs.Common.{◌≡◌, ℕ, ◌≤◌, Bool, List, [], ◌++◌, length, Option, Some, refl, sym, append-nil, arith, codes}
use Rattle.command_line.specs.Invocations.{Invocation}
use Rattle.qp_main.specs.Due.{Due, DueInput, GaveFor, ReadsInput, input_of}
use Rattle.qp_main.specs.declared.status.Status.{Status}
use Rattle.qp_main.specs.declared.status.Status.TheVariants as status
use Rattle.qp_main.proofs.DueLemmas.{given_due, source_due, too_long}

-- they are all of the input
pub all_due : (i : Invocation) (bytes : List ℕ) → input_of i.verb (Some bytes) ≡ Some bytes → length bytes ≤ 16777216 → (s : Status) (text : List ℕ) → DueInput i.verb i.chunks i.origin bytes s text → Due (Some i) (Some bytes) s text
all_due i bytes same within = source_due i (Some bytes) (Some []) bytes same (sym (append-nil bytes)) refl within

-- they are too many
pub all_too_long : (i : Invocation) (bytes : List ℕ) → input_of i.verb (Some bytes) ≡ Some bytes → length bytes ≡ 16777217 → Due (Some i) (Some bytes) status.TooLong (codes "input over 16777216 bytes\n")
all_too_long i bytes same long = given_due i (Some bytes) status.TooLong (codes "input over 16777216 bytes\n") same (too_long i (Some bytes) (Some []) bytes (sym (append-nil bytes)) long)

pub given_too_long : (i : Invocation) (before after : List ℕ) (ended : Bool) (bytes : List ℕ) (so : Option (List ℕ) → Type 0) → after ≡ before ++ bytes → length bytes ≡ 16777217 → so (Some bytes) → GaveFor (Some i) before after ended so
given_too_long i before after ended bytes so gave long h = record { bytes = bytes; gave = gave; whole = λ reads within. absurd (omega (arith, long, within)); holds = h }

-- nothing is read for these words
pub unread_given : (o : Option Invocation) (given : List ℕ) (ended : Bool) (so : Option (List ℕ) → Type 0) → (ReadsInput o → ⊥) → so (Some []) → GaveFor o given given ended so
unread_given o given ended so unread h = record { bytes = []; gave = sym (append-nil given); whole = λ reads within. absurd (unread reads); holds = h }
