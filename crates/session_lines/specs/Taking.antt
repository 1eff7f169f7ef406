-- Bytes that are taken line by line.
use Rattle.std.specs.Prelude.{◌≡◌, ◌⊎◌, ℕ, ◌+◌, ◌<◌, ◌≤◌, ◌^◌, Bool, true, false, IsTrue, List, ◌++◌, ◌==◌, Option, Some, None, Result, IsErrOf, OnOk, length, position}
use Rattle.std.specs.Io.KnownBytes.{Consumes}
use Rattle.std.specs.Option.{option_map}
use Rattle.session_lines.specs.declared.intake.NoMore.{NoMore}
use Rattle.session_lines.specs.declared.intake.NoMore.TheVariants as no_more

-- the bytes that are not done with, and whether the end of input was told
pub record Pending : Type 0 where
  pub bytes : List ℕ
  pub ended : Bool

-- no line feed is among them
abbrev pub IsUnbroken : List ℕ → Type 0
IsUnbroken bytes = position (λ b. b == 10) bytes ≡ None

-- how many bytes the first line has with its line feed, where it is there
abbrev pub line_end : List ℕ → Option ℕ
line_end bytes = option_map (λ n. n + 1) (position (λ b. b == 10) bytes)

-- the first line isn't longer than lines may be: it is there whole, and has at most 2^24 bytes with its line feed; or no more bytes are there
abbrev pub NextIsShort : List ℕ → Type 0
NextIsShort bytes = ((n : ℕ) × (line_end bytes ≡ Some n) × (n ≤ 2 ^ 24)) ⊎ (length bytes ≤ 2 ^ 24)

-- ---- a read

-- What a read gives stands behind what is there.
abbrev pub GivesMore : {A E : Type 0} → Result A E → Option (List ℕ) → Option (List ℕ) → List ℕ → List ℕ → Pending → Pending → Type 0
GivesMore result left left_now given given_now old new =
    (more : List ℕ) × Consumes left left_now more × (given_now ≡ given ++ more) × (length more ≤ 65536) × OnOk result (new.bytes ≡ old.bytes ++ more)

-- Bytes were taken, or none more are there.
pub record HasTaken (old new : Pending) (given given_now : List ℕ) (told : Bool) : Type 0 where
  -- the end of input is met where the talk tells it
  pub ended : new.ended ≡ true → old.ended ≡ false → IsTrue told
  pub some : new.ended ≡ false → length given < length given_now
  -- what was there isn't longer than a line may be
  pub short : length old.bytes ≤ 2 ^ 24

-- Why none were taken.
pub record StopsTaking {A : Type 0} (result : Result A NoMore) (old new : Pending) (given given_now : List ℕ) : Type 0 where
  -- what is there is longer than a line may be, and no read was tried
  pub too_long : IsErrOf result no_more.TooLong → (2 ^ 24 < length old.bytes) × (new ≡ old) × (given_now ≡ given)
  -- what was given is lost
  pub memory : IsErrOf result no_more.Memory → (length old.bytes ≤ 2 ^ 24) × (new ≡ old) × (length given < length given_now)
  -- a talk that fails gives nothing
  pub unmoved : IsErrOf result no_more.Fault → given_now ≡ given
