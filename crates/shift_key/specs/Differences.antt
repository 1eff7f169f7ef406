-- Where a key first differs from another, whose positions come one after another.
use Rattle.std.specs.Prelude.{◌≡◌, ℕ, ◌<◌, List, length, slice_index, Option, Some, None, Result, Ok, Err}
use Rattle.zone_model.specs.Keys.{IsFirstDifference}
use Rattle.shift_key.specs.declared.difference.Difference.{Difference}

-- the key reads as these positions do, below their end
pub record Agrees (key positions : List ℕ) (end : ℕ) : Type 0 where
  pub end_is : end ≡ length positions
  pub same : (k : ℕ) → k < end → slice_index key k ≡ slice_index positions k

-- it first differs from them at a place that they have
pub record DiffersAt (key positions : List ℕ) (d : Difference) : Type 0 where
  pub inside : d.place < length positions
  pub first : IsFirstDifference key positions d.place
  pub position : d.position ≡ slice_index positions d.place

abbrev pub Compares : List ℕ → List ℕ → Result ℕ Difference → Type 0
Compares key positions (Ok end) = Agrees key positions end
Compares key positions (Err d) = DiffersAt key positions d

-- the same of a whole key, behind which stands 0
abbrev pub IsDifference : List ℕ → List ℕ → Option Difference → Type 0
IsDifference key other None = key ≡ other
IsDifference key other (Some d) = IsFirstDifference key other d.place × (d.position ≡ slice_index other d.place)
