-- The items of a zone, one after another.
use Rattle.std.specs.Prelude.{◌≡◌, ◌≤◌, ℕ, List, [], ◌∷◌, take, Option, Some, None}
use Rattle.zone_model.specs.Names.{Name}
use Rattle.zone_model.specs.Records.{Entry, IsItem, item_limit}
use Rattle.zone_model.specs.Versions.{Version}

-- the first octets are the item of the first name of those that were left, or none was
abbrev pub GivesItem : Option ℕ → Version → Version → List ℕ → Type 0
GivesItem None old new octets = (old ≡ []) × (new ≡ [])
GivesItem (Some len) old new octets = (pair : Name × Entry) × (old ≡ pair ∷ new) × IsItem (take len octets) pair.0 pair.1 × (len ≤ item_limit)
