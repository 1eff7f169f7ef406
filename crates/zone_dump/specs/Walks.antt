-- An iterator's way over the names of a version.
use Rattle.std.specs.Prelude.{◌≡◌, ℕ, ◌+◌, ◌≤◌, List, [], ◌∷◌, map, take, length, Option, Some, None}
use Rattle.std.specs.List.{AllByRecursion}
use Rattle.zone_model.specs.Names.{Name}
use Rattle.zone_model.specs.Records.{Entry, item}
use Rattle.zone_model.specs.Versions.{Version}
use Rattle.zone_model.specs.Rows.{Directives}
use Rattle.zone_model.specs.Dumps.{all_rows, version_lines}
use Rattle.outer_io.specs.Bytes.{Held}
use Rattle.trie_model.specs.Keys as trie
use Rattle.zone_answer.specs.Standing.{IsStorable, trie_entry}
use Rattle.zone_dump.specs.Writing.{PassesPart}

-- an iterator stands before these names, each with an item
pub record Faces (stands : List trie.Entry → List trie.Entry → Type 0) (left : Version) : Type 0 where
  pub before : List trie.Entry
  pub standing : stands before (map trie_entry left)
  pub items : AllByRecursion IsStorable left

-- it stands before some names
abbrev pub FacesSome : (List trie.Entry → List trie.Entry → Type 0) → Type 0
FacesSome stands = (left : Version) × Faces stands left

-- The first octets are the item of the first of the names that were left, and the iterator stands before the others.
pub record GivesFirst (stands : List trie.Entry → List trie.Entry → Type 0) (left : Version) (octets : List ℕ) (len : ℕ) : Type 0 where
  pub pair : Name × Entry
  pub others : Version
  pub left_is : left ≡ pair ∷ others
  pub within : len ≤ length octets
  pub item_is : take len octets ≡ item pair.0 pair.1
  pub storable : IsStorable pair
  pub faces : Faces stands others

-- the same, or none was left
abbrev pub GivesNext : (List trie.Entry → List trie.Entry → Type 0) → Version → List ℕ → Option ℕ → Type 0
GivesNext stands left octets None = left ≡ []
GivesNext stands left octets (Some len) = GivesFirst stands left octets len

-- what a dump that goes on knows of a version: the names that are left, what has come, and the count of records
pub record GoesOn (stands : List trie.Entry → List trie.Entry → Type 0) (old new : Held) (had has : List ℕ) (counted count : ℕ) (directives : Option Directives) (version : Version) : Type 0 where
  pub left : Version
  pub faces : Faces stands left
  pub part : PassesPart old new had has (version_lines directives version) (version_lines directives left)
  pub number : count + length (all_rows left) ≡ counted + length (all_rows version)
