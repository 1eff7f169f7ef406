-- The table of zones: the origins that are served, as the entries of an index.
use Rattle.std.specs.Prelude.{◌≡◌, ◌≤◌, List, Contains, length}
use Rattle.std.specs.List.{AllByRecursion, IsDistinct}
use Rattle.zone_model.specs.Names.{IsName, Name, same_name, wire}
use Rattle.zone_model.specs.Keys.{key_of}
use Rattle.trie_model.specs.Keys.{Entry, InList, Rises}
use Rattle.trie_model.specs.Order.{IsThere}

-- the entry of an origin: its wire form, under its key
abbrev pub entry_for : Name → Entry
entry_for origin = record { key = key_of origin; item = wire origin }

-- each entry is one of these origins'
abbrev pub AreOf : List Name → List Entry → Type 0
AreOf origins es = (e : Entry) → InList e es → (origin : Name) × Contains origins origin × (e ≡ entry_for origin)

-- entries of some of these origins, in the order of their keys
pub record IsPart (origins : List Name) (es : List Entry) : Type 0 where
  pub rising : Rises es
  pub only : AreOf origins es

-- the entries of all these origins and of no other name
pub record IsTable (origins : List Name) (es : List Entry) : Type 0 where
  pub all : (origin : Name) → Contains origins origin → InList (entry_for origin) es
  pub only : AreOf origins es

-- sixteen origins or fewer, each another name
pub record AreOrigins (origins : List Name) : Type 0 where
  pub few : length origins ≤ 16
  pub names : AllByRecursion IsName origins
  pub different : IsDistinct same_name origins

-- A version of a table that begins with the first one: entries that are there at first, in the order of their keys.
pub record IsAmong (first later : List Entry) : Type 0 where
  pub rising : Rises later
  pub each : (e : Entry) → InList e later → InList e first

-- a version has the origin
abbrev pub IsAttached : List Entry → Name → Type 0
IsAttached es origin = IsThere (key_of origin) es
