-- An item's records where they lie: which octets are records, RRsets and entries, and what is seen of octets.
use Rattle.std.specs.Prelude.{◌≡◌, ℕ, ◌<◌, ◌≤◌, ◌^◌, List, [], ◌∷◌, ◌++◌, length, Option, Some, None}
use Rattle.std.specs.List.{flat_map, AllByRecursion}
use Rattle.zone_model.specs.Names.{Name}
use Rattle.zone_model.specs.Records.{Rrset, Entry, record_bytes, rrset_bytes, RisingOctets, RisingSets, IsRrset, IsItem}

-- ---- what is seen

-- the records that were split off
abbrev pub records_seen : Option (List (List ℕ) × List ℕ) → List (List ℕ)
records_seen None = []
records_seen (Some x) = x.0

-- the RRsets that were split off
abbrev pub sets_seen : Option (List Rrset × List ℕ) → Entry
sets_seen None = []
sets_seen (Some x) = x.0

-- ---- what stands in front

-- a record, and more behind it
pub record BeginsWithRecord (bytes octets more : List ℕ) : Type 0 where
  pub short : length octets ≤ 65535
  pub laid : bytes ≡ record_bytes octets ++ more

-- n records, and more behind them
pub record BeginsWithRecords (n : ℕ) (bytes : List ℕ) (records : List (List ℕ)) (more : List ℕ) : Type 0 where
  pub short : AllByRecursion (λ octets. length octets ≤ 65535) records
  pub counted : n ≡ length records
  pub laid : bytes ≡ flat_map record_bytes records ++ more

-- an RRset, and more behind it
pub record BeginsWithSet (bytes : List ℕ) (s : Rrset) (more : List ℕ) : Type 0 where
  pub proper : IsRrset s
  pub few : length s.records < 2 ^ 16
  pub laid : bytes ≡ rrset_bytes s ++ more

-- ---- what they are

-- the octets are n records of an RRset
pub record AreRecords (n : ℕ) (bytes : List ℕ) (records : List (List ℕ)) : Type 0 where
  pub rising : RisingOctets None records
  pub counted : n ≡ length records
  pub laid : bytes ≡ flat_map record_bytes records

-- the octets are n RRsets of an entry
pub record AreSets (n : ℕ) (bytes : List ℕ) (sets : Entry) : Type 0 where
  pub rising : RisingSets None sets
  pub few : length bytes < 2 ^ 16
  pub counted : n ≡ length sets
  pub laid : bytes ≡ flat_map rrset_bytes sets

-- The octets say what an owner has: they are its item, or there are none, and it has nothing.
abbrev pub SaysEntry : Name → List ℕ → Entry → Type 0
SaysEntry owner [] entry = entry ≡ []
SaysEntry owner (b ∷ bytes) entry = IsItem (b ∷ bytes) owner entry
