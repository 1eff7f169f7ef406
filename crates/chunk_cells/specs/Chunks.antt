-- The state of a chunk: given or free.
use Rattle.std.specs.Prelude.{◌≡◌, ℕ, List, Bool, true, false, Some, slice_get}

-- there is such a chunk, and it is given
abbrev pub IsGiven : List Bool → ℕ → Type 0
IsGiven given chunk = slice_get given chunk ≡ Some true

-- there is such a chunk, and it is free
abbrev pub IsFree : List Bool → ℕ → Type 0
IsFree given chunk = slice_get given chunk ≡ Some false
