-- The shape of a name's key.
use Rattle.std.specs.Prelude.{◌≡◌, ℕ, suc, ◌<◌, ◌≤◌, List, length, slice_index}

pub record KeyShape (key : List ℕ) : Type 0 where
  pub short : length key ≤ 504
  pub small : (i : ℕ) → slice_index key i < 47
  -- the last label is ended
  pub ended : (i : ℕ) → suc i ≡ length key → slice_index key i ≡ 0
  -- no label is empty
  pub full : (i : ℕ) → i < length key → slice_index key i ≡ 0 → (j : ℕ) × (i ≡ suc j) × (0 < slice_index key j)
