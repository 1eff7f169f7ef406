-- Which zone a name is in: the one with the deepest origin, of those that are attached, at or above the name (RFC 1034, section 4.3.2, step 2).
use Rattle.std.specs.Prelude.{◌≡◌, ℕ, ◌≤◌, true, List, length, Contains, Option, Some, None, slice_get}
use Rattle.zone_model.specs.Names.{Name, is_under}
use Rattle.trie_model.specs.Keys.{Entry}
use Rattle.zone_table.specs.Tables.{IsAttached}

-- the origin is attached, and at or above the name
pub record Covers (es : List Entry) (name origin : Name) : Type 0 where
  pub attached : IsAttached es origin
  pub above : is_under name origin ≡ true

-- the origin of this number covers the name, and no other one that does has more labels
pub record IsDeepest (origins : List Name) (es : List Entry) (name : Name) (zone : ℕ) : Type 0 where
  pub origin : Name
  pub origin_is : slice_get origins zone ≡ Some origin
  pub covers : Covers es name origin
  pub deepest : (other : Name) → Contains origins other → Covers es name other → length other ≤ length origin

-- the zone that a name is in, by its number; none where no origin covers the name
abbrev pub IsZoneOf : List Name → List Entry → Name → Option ℕ → Type 0
IsZoneOf origins es name None = (origin : Name) → Contains origins origin → Covers es name origin → ⊥
IsZoneOf origins es name (Some zone) = IsDeepest origins es name zone
