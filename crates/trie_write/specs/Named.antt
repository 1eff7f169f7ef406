-- Octets that begin with a name in its wire form.
use Rattle.std.specs.Prelude.{ℕ, Bool, List, [], Option, Some, None, true, false}
use Rattle.zone_model.specs.Names.{Name}
use Rattle.zone_model.specs.Keys.{key_of}
use Rattle.zone_model.specs.Splits.{split_name}

abbrev pub is_split : Option (Name × List ℕ) → Bool
is_split None = false
is_split (Some split) = true

abbrev pub begins_with_name : List ℕ → Bool
begins_with_name octets = is_split (split_name octets)

-- the key of the name
abbrev pub key_of_split : Option (Name × List ℕ) → List ℕ
key_of_split None = []
key_of_split (Some split) = key_of split.0

abbrev pub key_in : List ℕ → List ℕ
key_in octets = key_of_split (split_name octets)
