-- What indexes are opened with: the items of zones, tables for them, and a list of commands.
use Rattle.std.specs.Prelude.{◌≡◌, ◌<◌, ◌≤◌, ◌^◌, ℕ, List, [], ◌∷◌, length}
use Rattle.std.specs.List.{AllByRecursion}
use Rattle.zone_model.specs.MasterFile.{Zone}
use Rattle.zone_model.specs.Names.{Name}
use Rattle.zone_model.specs.Versions.{Version}
use Rattle.trie_model.specs.Keys.{Entry}
use Rattle.job_model.specs.Commands.{Command, NeedsNoSnapshot}
use Rattle.job_model.specs.Feeds.{passes_fed}
use Rattle.report_laws.specs.Changes.{AllAsked}
use Rattle.job_commands.specs.Histories.{IsZone, StandsAs}
use Rattle.trie_write.specs.Entries.{entries_of_items}
use Rattle.trie_write.specs.declared.item.Item.{Item}
use Rattle.zone_table.specs.declared.opening.ZoneItems.{ZoneItems}
use Rattle.zone_table.specs.Openings.{entries_in}

-- a version of a zone stands as what they hold
abbrev pub AreItemsOf : List Item → Version → Type 0
AreItemsOf items zone = StandsAs (entries_of_items items) zone

-- they are those of a zone with an origin of its own, which has no more names than memory holds
pub record AreItems (zone : Zone) (z : ZoneItems) : Type 0 where
  pub origin : z.origin ≡ zone.origin
  pub stand : StandsAs (entries_in z) zone.pairs
  pub few : length zone.pairs < 2 ^ 40

-- of each zone, in the same order
abbrev pub AreAllItems : List Zone → List ZoneItems → Type 0
AreAllItems [] [] = Unit {0}
AreAllItems [] (z ∷ items) = ⊥
AreAllItems (zone ∷ zones) [] = ⊥
AreAllItems (zone ∷ zones) (z ∷ items) = AreItems zone z × AreAllItems zones items

-- tables of so many chunks, for so many passes each
pub record CanHaveTables (chunks passes : ℕ) : Type 0 where
  -- a table has 16 chunks at least
  pub enough : 16 ≤ chunks
  -- and 4,096 at most
  pub few : chunks ≤ 4096
  -- there is main's pass
  pub some_passes : 1 ≤ passes
  -- and one for each of sixteen workers at most
  pub few_passes : passes ≤ 17

-- one list of commands on the zone with these entries, which a crew is to run by a table with so many seats
pub record CanBeHandedOut (origin : Name) (es : List Entry) (seats crew many : ℕ) (commands : List Command) : Type 0 where
  -- the table has the passes for so many
  pub passes : seats ≡ passes_fed crew
  -- the zone is one of the origin
  pub zone : IsZone origin es
  -- no commands need no worker; else there are one to sixteen
  pub workers : (many ≡ 0 → crew ≡ 0) × (0 < many → 1 ≤ crew) × (crew ≤ 16)
  -- there are 10,000 commands at most
  pub count : many ≤ 10000
  -- they want no snapshot
  pub no_snapshots : AllByRecursion NeedsNoSnapshot commands
  -- what they ask for are changes of a zone of the origin
  pub said : AllByRecursion (AllAsked origin) commands
