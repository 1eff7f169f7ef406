-- The records of a zone by owner, as they are read.
use Rattle.std.specs.Prelude.{ℕ, ◌<◌, ◌≤◌, List, [], map, length, unwrap_or, Result}
use Rattle.std.specs.BTreeMap.{insert_entry, is_at}
use Rattle.std.specs.Map.{lookup}
use Rattle.std.specs.List.{AllByRecursion}
use Rattle.zone_model.specs.Names.{Name, IsName}
use Rattle.zone_model.specs.Records.{Entry, with_rr, item, item_limit}
use Rattle.zone_model.specs.Versions.{Version}
use Rattle.zone_model.specs.Refusals.{Refused}
use Rattle.zone_model.specs.MasterFile.{entry_fault, unless_fault}
use Rattle.zone_model.specs.declared.ZoneKind.{ZoneKind}
use Rattle.dns_name.specs.declared.sort_key.SortKey.{SortKey}
use Rattle.dns_name.specs.SortKeys.{KeyBelow, key_cmp}

-- what names own, under their sort keys
abbrev pub Held : Type 0
Held = List (SortKey × (Name × Entry))

abbrev pub version_of : Held → Version
version_of held = map (λ e. e.1) held

-- the owner of a key with what it owns, nothing where it isn't there
abbrev pub owned_at : SortKey → Name → Held → Name × Entry
owned_at key owner held = unwrap_or (lookup (is_at (key_cmp key)) held) (owner, [])

-- a record joins what its owner's key has
abbrev pub placed_at : ℕ → SortKey → Name → ℕ → ℕ → List ℕ → Held → Result Held (Refused ZoneKind)
placed_at last key owner rtype time octets held =
    let owned = owned_at key owner held in
    let next = with_rr rtype time octets owned.1 in
    unless_fault last (entry_fault owned.0 next) (insert_entry key_cmp held key (owned.0, next))

-- what a name owns can be an item
pub record CanBeItem (pair : Name × Entry) : Type 0 where
  pub some : 0 < length pair.1
  pub short : length (item pair.0 pair.1) ≤ item_limit

-- what stands under a key is owned by the name under the apex that has the key
pub record IsHeld (apex : Name) (e : SortKey × (Name × Entry)) : Type 0 where
  pub below : KeyBelow e.1.0 apex e.0
  pub name : IsName e.1.0
  pub item : CanBeItem e.1

abbrev pub AllHeld : Name → Held → Type 0
AllHeld apex held = AllByRecursion (IsHeld apex) held
