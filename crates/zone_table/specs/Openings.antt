-- How zones are opened, and why they aren't.
use Rattle.std.specs.Prelude.{◌≡◌, ℕ, ◌+◌, ◌≤◌, List, [], ◌∷◌, Result, Ok, Err, Vec, length, map, All, Contains, IsSome, Some, slice_get}
use Rattle.std.specs.Global.{Global}
use Rattle.std.specs.List.{IsDistinct}
use Rattle.std.specs.declared.cmp.Ordering.TheVariants.{Less}
use Rattle.atomic_table.specs.Seated.{TableId}
use Rattle.zone_model.specs.Names.{Name, name_cmp, same_name}
use Rattle.trie_model.specs.Keys.{Entry, Rises}
use Rattle.trie_model.specs.Shape.{cells}
use Rattle.trie_write.specs.Entries.{entries_of_items}
use Rattle.shared_cells.specs.declared.view.TableSize.{TableSize}
use Rattle.qp_multi.specs.declared.meaning.Named.{Ghosts}
use Rattle.qp_multi.specs.declared.opening.Blank.{Blank}
use Rattle.qp_multi.specs.declared.opening.OpenRefusal.TheVariants as refusal
use Rattle.qp_multi.specs.Closings.{AreAll}
use Rattle.qp_multi.specs.Openings.{Refuses, SeesFirst, room_in}
use Rattle.qp_multi.specs.Passes.{known_at, commits_in, pinned_in}
use Rattle.zone_table.specs.declared.opening.Opened.{Opened}
use Rattle.zone_table.specs.declared.opening.ZoneItems.{ZoneItems}
use Rattle.zone_table.specs.declared.opening.ZonesRefusal.{ZonesRefusal}
use Rattle.zone_table.specs.declared.opening.ZonesRefusal.TheVariants.{Full, Memory}

abbrev pub origins_of : List ZoneItems → List Name
origins_of zones = map (λ (z : ZoneItems). z.origin) zones

abbrev pub entries_in : ZoneItems → List Entry
entries_in z = entries_of_items z.items.items

-- what a zone is opened on: its items, and a table of this size
pub record Place : Type 0 where
  pub zone : ZoneItems
  pub size : TableSize

-- of each zone, as far as there are tables
abbrev pub places_of : List ZoneItems → List TableSize → List Place
places_of [] sizes = []
places_of (z ∷ zones) [] = []
places_of (z ∷ zones) (s ∷ sizes) = record { zone = z; size = s } ∷ places_of zones sizes

abbrev pub sizes_of : {X : Type 0} → List (Blank X) → List TableSize
sizes_of {X = X} blanks = map (λ (b : Blank X). b.shared.table.shared.key) blanks

-- each zone's trie is sure to find room in its table
abbrev pub AllFit : List Place → Type 0
AllFit places = (p : Place) → Contains places p → cells (entries_in p.zone) ≤ room_in p.size.chunks

-- its trie may fit: it isn't refused as full
abbrev pub MayFit : Place → Type 0
MayFit p = Refuses p.size.chunks (entries_in p.zone) refusal.Memory

-- The zone of this number is refused as full, with these numbers, and none whose origin comes before its own in canonical order is.
pub record IsFirstFull (places : List Place) (zone needed limit : ℕ) : Type 0 where
  pub place : Place
  pub there : slice_get places zone ≡ Some place
  pub full : Refuses place.size.chunks (entries_in place.zone) (refusal.Full needed limit)
  pub first : (other : Place) → Contains places other → name_cmp other.zone.origin place.zone.origin ≡ Less → MayFit other

-- The first zone that is refused as full; or none is, and memory is wanting.
abbrev pub RefusesZones : List Place → ZonesRefusal → Type 0
RefusesZones places (Full zone needed limit) = IsFirstFull places zone needed limit
RefusesZones places Memory = (p : Place) → Contains places p → MayFit p

-- a blank table for the origins, which is the first that is named
pub record IsTableBlank (tables : List TableId) (id : TableId) (key : TableSize) : Type 0 where
  pub named : slice_get tables 0 ≡ Some id
  pub chunks : key.chunks ≡ 512
  pub few_passes : key.passes ≤ 17

-- one to sixteen zones, of different origins
pub record ZonesDiffer (zones : List ZoneItems) : Type 0 where
  pub some : 1 ≤ length zones
  pub few : length zones ≤ 16
  pub different : IsDistinct same_name (origins_of zones)

-- the items of each zone can be version 0 of an index of this law
pub record CanBegin (law : List Entry → List Entry → Type 0) (zones : List ZoneItems) : Type 0 where
  pub rising : All (λ z. Rises (entries_in z)) zones
  pub lawful : All (λ z. law (entries_in z) (entries_in z)) zones

-- so zones can be opened together
pub record CanOpen (law : List Entry → List Entry → Type 0) (zones : List ZoneItems) : Type 0 where
  pub differ : ZonesDiffer zones
  pub begin : CanBegin law zones

-- Blank tables for so many zones. They are named behind that of the origins.
pub record AreBlanks {X : Type 0} (tables : List TableId) (passes count : ℕ) (blanks : List (Blank X)) : Type 0 where
  pub named : (k : ℕ) (b : Blank X) → slice_get blanks k ≡ Some b → slice_get tables (k + 1) ≡ Some b.shared.table.shared.table_id
  -- all have so many passes
  pub alike : All (λ s. s.passes ≡ passes) (sizes_of blanks)
  pub each : length blanks ≡ count

-- An index that has this place among those that are named, with these entries as version 0 and a table of this size. All its passes are there,
-- and none has committed or asked.
pub record IsBegun {X Y : Type 0} {N : Ghosts Y} (number : ℕ) (size : TableSize) (es : List Entry) (o : Opened X Y N) : Type 0 where
  pub place : o.index.place ≡ number
  pub size_is : o.index.shared.table.shared.key ≡ size
  pub passes : All (λ p. (IsSome p.seat) × (p.place ≡ number) × SeesFirst es (known_at p.seat)) o.passes.items
  pub unused : All (λ p. (commits_in (known_at p.seat).pass ≡ []) × (pinned_in (known_at p.seat).pass ≡ [])) o.passes.items
  pub count : length o.passes.items ≡ size.passes
  pub all : AreAll size.passes (map (λ p. known_at p.seat) o.passes.items)
  pub fits : cells es ≤ room_in size.chunks

-- each zone's, by their numbers
pub record AreBegun {X Y : Type 0} {N : Ghosts Y} (places : List Place) (opened : List (Opened X Y N)) : Type 0 where
  pub count : length opened ≡ length places
  pub each : (k : ℕ) (p : Place) (o : Opened X Y N) → slice_get places k ≡ Some p → slice_get opened k ≡ Some o → IsBegun (k + 1) p.size (entries_in p.zone) o

-- each zone has an index, and all have so many passes
abbrev pub AreOpened : {X Y : Type 0} {N : Ghosts Y} → List ZoneItems → ℕ → List (Opened X Y N) → Type 0
AreOpened zones passes opened = (sizes : List TableSize) × (length sizes ≡ length zones) × All (λ s. s.passes ≡ passes) sizes
    × AreBegun (places_of zones sizes) opened

-- all of these are opened, or refused
abbrev pub OpensZones : {X Y : Type 0} {N : Ghosts Y} → List Place → Result (Vec (Opened X Y N) Global) ZonesRefusal → Type 0
OpensZones places (Ok opened) = AreBegun places opened.items
OpensZones places (Err refusal) = RefusesZones places refusal
