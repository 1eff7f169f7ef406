-- What one name owns, as it is kept.
use Rattle.std.specs.Prelude.{ℕ, ◌-◌, ◌^◌, ◌<◌, ◌≤◌, List, [], ◌∷◌, length, min, unwrap_or}
use Rattle.zone_model.specs.Names.{Name}
use Rattle.zone_model.specs.Records.{Entry, IsItem, item, item_limit, fresh}
use Rattle.zone_model.specs.Items.{item_of}
use Rattle.master_file.specs.declared.owned.Kept.{Kept}
use Rattle.master_file.specs.declared.owned.Kept.TheVariants.{Single, Several}

-- one record
pub record One : Type 0 where
  pub rtype : ℕ
  pub ttl : ℕ
  pub octets : List ℕ

-- an item has no more than so many octets, as far as 64 bits count, and is too long where these are too many
pub record IsCounted (owner : Name) (entry : Entry) (octets : ℕ) : Type 0 where
  pub most : min (length (item owner entry)) (2 ^ 64 - 1) ≤ octets
  pub long : item_limit < octets → item_limit < length (item owner entry)

abbrev pub kept_view : Kept → Name × Entry
kept_view (Single octets) = unwrap_or (item_of octets.items) ([], [])
kept_view (Several kept) = (kept.value.owner, kept.value.entry)

abbrev pub IsKept : Kept → Type 0
IsKept (Single octets) = (owner : Name) × (r : One) × IsItem octets.items owner (fresh r.rtype r.ttl r.octets ∷ [])
IsKept (Several kept) = IsCounted kept.value.owner kept.value.entry kept.value.octets
