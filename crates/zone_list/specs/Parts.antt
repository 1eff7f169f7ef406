-- The parts of an input, and the zones that are read of it, in other words.
use Rattle.std.specs.Prelude.{◌≡◌, ◌≢◌, ℕ, ◌+◌, ◌<◌, ◌≤◌, true, false, List, [], ◌∷◌, ◌++◌, length, AllPairs}
use Rattle.std.specs.List.{list_any}
use Rattle.zone_model.specs.MasterFile.{Zone}
use Rattle.zone_list.specs.Lists.{Part, is_head, zone_limit}

-- Lines from line n on are these parts, one behind another: of the lines of each, the first alone begins a part.
pub data AreParts : ℕ → List Part → List (List ℕ) → Type 0 where
  NoPart : (n : ℕ) → AreParts n [] []
  PartFirst : (n : ℕ) (head : List ℕ) (lines rest : List (List ℕ)) (parts : List Part) → is_head head ≡ true → list_any is_head lines ≡ false → AreParts (n + 1 + length lines) parts rest
      → AreParts n ((record { number = n; head = head; lines = lines }) ∷ parts) (head ∷ (lines ++ rest))

-- there are zones, as many as there may be at most, each with an origin of its own
pub record AreListed (zones : List Zone) : Type 0 where
  pub some : 0 < length zones
  pub few : length zones ≤ zone_limit
  pub apart : AllPairs (λ a b. a.origin ≢ b.origin) zones
