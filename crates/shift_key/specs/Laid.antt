-- How a key lies in its array: in front of it, beside the name that it is the key of.
use Rattle.std.specs.Prelude.{◌≡◌, ℕ, ◌≤◌, List, length, take, slice_index}
use Rattle.zone_model.specs.Names.{Name, IsName}
use Rattle.zone_model.specs.Keys.{key_of}
use Rattle.dns_name.specs.Spelling.{Spells}
use Rattle.shift_key.specs.declared.Key.TheInside.{Inside}

-- the first positions in the array, so many, are these
pub record IsFront (positions : List ℕ) (len : ℕ) (places : List ℕ) : Type 0 where
  pub len_is : len ≡ length positions
  pub front : take len places ≡ positions

-- the key of the name that the bytes spell has room in an array
abbrev pub HasRoom : List ℕ → Type 0
HasRoom bytes = (labels : Name) → Spells bytes labels → length (key_of labels) ≤ 512

abbrev pub positions_of : Inside → List ℕ
positions_of k = key_of k.name

pub record IsLaid (k : Inside) : Type 0 where
  pub name : IsName k.name
  pub laid : IsFront (key_of k.name) k.len k.places
  -- 0 stands behind them
  pub ended : slice_index k.places k.len ≡ 0
