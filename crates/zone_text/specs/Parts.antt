-- The parts of an address.
use Rattle.std.specs.Prelude.{ℕ, List, length, map, ◌==◌, if◌then◌else◌, Option, None}
use Rattle.std.specs.List.{slice_split}
use Rattle.zone_model.specs.Texts.{address_part, all_some}

-- what so many parts say
abbrev pub said_by : ℕ → List (List ℕ) → Option (List ℕ)
said_by n parts = if length parts == n then all_some (map address_part parts) else None

-- the parts are those between dots
abbrev pub parts_said : ℕ → List ℕ → Option (List ℕ)
parts_said n text = said_by n (slice_split (λ b. b == 46) text)
