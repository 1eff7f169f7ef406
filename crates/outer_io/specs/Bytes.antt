-- What a source gives, what a sink holds, and what a write does to that.
use Rattle.std.specs.Prelude.{◌≡◌, ℕ, ◌≤◌, List, ◌++◌, length, take, ⊤, Option, None, Some}
use Rattle.std.specs.Io.KnownBytes.{Consumes}

-- A source gave so many bytes: they were taken from those that it has left, where it tells these, and come behind those that it gave before.
abbrev pub GivesBytes : {S : Type 0} → (S → Option (List ℕ)) → (S → List ℕ) → S → S → ℕ → Type 0
GivesBytes left given before after n =
    (bytes : List ℕ) × Consumes (left before) (left after) bytes × (given after ≡ given before ++ bytes) × (length bytes ≡ n)

-- What a sink tells. One that has never told its bytes may begin to. One that told them may spill over, and then tells them no more.
pub data Told : Type 0 where
  Holds : (bytes : List ℕ) → Told
  Untold : Told
  Spilt : Told

-- what a writer of std tells, where it does
abbrev pub told_by : Option (List ℕ) → Told
told_by (Some bytes) = Holds bytes
told_by None = Untold

-- what lies in a room, where it fits
abbrev pub told_in : Option (List ℕ) → Told
told_in (Some bytes) = Holds bytes
told_in None = Spilt

-- What a sink holds: all bytes that it took since it was made, and what it tells of those that lie in it.
pub record Held : Type 0 where
  pub taken : List ℕ
  pub told : Told

-- what a room in memory holds
abbrev pub held_of : List ℕ → Option (List ℕ) → Held
held_of taken bytes = record { taken = taken; told = told_in bytes }

-- The bytes told grow by bs. Of a sink that hasn't told them nothing is said.
abbrev pub TellsMore : Told → Told → List ℕ → Type 0
TellsMore (Holds xs) (Holds ys) bs = ys ≡ xs ++ bs
TellsMore (Holds xs) Spilt bs = ⊤
TellsMore (Holds xs) Untold bs = ⊥
TellsMore Spilt Spilt bs = ⊤
TellsMore Spilt Untold bs = ⊥
TellsMore Spilt (Holds ys) bs = ⊥
TellsMore Untold new bs = ⊤

-- What is held grows by bs: these were taken, and are told if any are.
pub record Grows (old new : Held) (bs : List ℕ) : Type 0 where
  pub taken : new.taken ≡ old.taken ++ bs
  pub told : TellsMore old.told new.told bs

-- it grows by a prefix of bs
abbrev pub GrowsByFront : Held → Held → List ℕ → Type 0
GrowsByFront old new bs = (n : ℕ) × (n ≤ length bs) × Grows old new (take n bs)
