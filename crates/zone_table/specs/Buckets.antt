-- Zones that are filed by the wire forms of their origins, each in one of 64 buckets.
use Rattle.std.specs.Prelude.{◌≡◌, ◌+◌, ◌*◌, ◌/◌, ◌%◌, ◌<◌, ℕ, true, List, [], All, Contains, Some, length, get_or, nat_eq, slice_get, slice_index}
use Rattle.std.specs.List.{list_any}
use Rattle.zone_model.specs.Names.{Name, wire}

-- the bucket of an origin, by the octets of its wire form
abbrev pub bucket_of : List ℕ → ℕ
bucket_of octets = (length octets + 8 * slice_index octets (length octets / 4)) % 64

abbrev pub IsOn : ℕ → List ℕ → Type 0
IsOn zone zones = list_any (nat_eq zone) zones ≡ true

-- each zone is in the bucket of its origin
abbrev pub AreFiled : List Name → List (List ℕ) → Type 0
AreFiled origins buckets = (zone : ℕ) (origin : Name) → slice_get origins zone ≡ Some origin → IsOn zone (get_or buckets (bucket_of (wire origin)) [])

-- each zone in a bucket is one of so many
abbrev pub AreZones : ℕ → List (List ℕ) → Type 0
AreZones count buckets = All (All (λ zone. zone < count)) buckets

-- the zones in one bucket: all that belong there
pub record IsBucket (origins : List Name) (bucket : ℕ) (zones : List ℕ) : Type 0 where
  pub inside : All (λ zone. zone < length origins) zones
  pub all : (zone : ℕ) (origin : Name) → slice_get origins zone ≡ Some origin → bucket_of (wire origin) ≡ bucket → Contains zones zone
