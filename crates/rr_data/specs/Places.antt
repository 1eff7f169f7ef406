-- Where the RRset of a type stands in an entry.
use Rattle.std.specs.Prelude.{◌≡◌, ℕ, suc, ◌<◌, ◌≤◌, List, ◌++◌, length, take, drop, slice_index_or, Option, Some, None}
use Rattle.zone_model.specs.Records.{Rrset, Entry, changed_at}

-- those before a place have lower types, so a change is one behind them
pub record AreLower (rtype : ℕ) (entry : Entry) (at : ℕ) : Type 0 where
  pub changed : (change : Option Rrset → List Rrset) → changed_at rtype change entry ≡ take at entry ++ changed_at rtype change (drop at entry)

-- it stands at a place, and a change of it leaves what is before and behind it
pub record StandsAt (rtype : ℕ) (entry : Entry) (at : ℕ) : Type 0 where
  pub set : Rrset
  pub is : set ≡ slice_index_or entry at set
  pub within : at < length entry
  pub changed : (change : Option Rrset → List Rrset) → changed_at rtype change entry ≡ take at entry ++ (change (Some set) ++ drop (suc at) entry)

-- there is none, and one would stand at a place
pub record MissingAt (rtype : ℕ) (entry : Entry) (at : ℕ) : Type 0 where
  pub within : at ≤ length entry
  pub changed : (change : Option Rrset → List Rrset) → changed_at rtype change entry ≡ take at entry ++ (change None ++ drop at entry)
