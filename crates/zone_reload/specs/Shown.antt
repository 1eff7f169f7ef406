-- The names of a version that are left to an iterator, the first of which is laid down.
use Rattle.std.specs.Prelude.{◌≡◌, ◌≤◌, ℕ, List, [], ◌∷◌, length, take, Option, Some, None}
use Rattle.zone_model.specs.Keys.{most_item_octets}
use Rattle.zone_model.specs.Records.{IsItem}
use Rattle.zone_model.specs.Versions.{Version}
use Rattle.trie_model.specs.Keys.{Entry}
use Rattle.zone_answer.specs.Standing.{Shows}
use Rattle.zone_diff.specs.NamesAhead.{entry_laid}
use Rattle.zone_diff.specs.declared.names.Ahead.{Ahead}
use Rattle.zone_dump.specs.Walks.{Faces}

-- an item is laid down, and an iterator stands before the others
pub record ShowsAhead (stands : List Entry → List Entry → Type 0) (ahead : Ahead) (octets : List ℕ) (left : Version) : Type 0 where
  pub behind : Version
  pub faces : Faces stands behind
  pub laid : IsItem (take ahead.len octets) ahead.owner (entry_laid ahead.owner (take ahead.len octets))
  pub within : ahead.len ≤ length octets
  pub is : left ≡ (ahead.owner, entry_laid ahead.owner (take ahead.len octets)) ∷ behind

abbrev pub ShowsLeft : (List Entry → List Entry → Type 0) → Option Ahead → List ℕ → Version → Type 0
ShowsLeft stands None octets left = left ≡ []
ShowsLeft stands (Some ahead) octets left = ShowsAhead stands ahead octets left

-- the same, with room for any item
abbrev pub ShowsNames : (List Entry → List Entry → Type 0) → Option Ahead → List ℕ → Version → Type 0
ShowsNames stands ahead octets left = (most_item_octets ≤ length octets) × ShowsLeft stands ahead octets left

-- the same of all names of whichever version is shown
abbrev pub ShowsAll : (List Entry → Type 0) → (List Entry → List Entry → Type 0) → Option Ahead → List ℕ → Type 0
ShowsAll holds stands ahead octets = (zone : Version) → Shows holds zone → ShowsNames stands ahead octets zone
