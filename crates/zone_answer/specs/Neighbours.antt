-- The name of a key.
use Rattle.std.specs.Prelude.{◌≡◌, ℕ, List, Option, Some, None}
use Rattle.zone_model.specs.Names.{Name, IsName}
use Rattle.zone_model.specs.Keys.{key_of}

-- no name where there is no key
abbrev pub Names : Option (List ℕ) → Option Name → Type 0
Names None found = found ≡ None
Names (Some key) None = ⊥
Names (Some key) (Some name) = (key_of name ≡ key) × IsName name
