-- How the passes of the table and of the zones are put together.
use Rattle.std.specs.Prelude.{◌≡◌, ℕ, ◌<◌, List, [], ◌∷◌, ◌++◌, length, map, All, Some, None, slice_get}
use Rattle.trie_model.specs.Keys.{Entry}
use Rattle.shared_cells.specs.declared.view.TableSize.{TableSize}
use Rattle.qp_multi.specs.declared.meaning.Named.{Ghosts}
use Rattle.qp_multi.specs.declared.pass.Pass.{Pass}
use Rattle.qp_multi.specs.Closings.{AreAll}
use Rattle.qp_multi.specs.Openings.{SeesFirst}
use Rattle.qp_multi.specs.Passes.{Known, commits_in, first_version, pinned_in}
use Rattle.zone_table.specs.declared.opening.ZoneItems.{ZoneItems}
use Rattle.zone_table.specs.declared.pass.ZonesPass.{ZonesPass}
use Rattle.zone_table.specs.declared.zones.Zones.{Zones}
use Rattle.zone_table.specs.Openings.{AllFit, entries_in, origins_of, places_of}
use Rattle.zone_table.specs.Passes.{IsPassOf, table_known, zone_known}
use Rattle.zone_table.specs.Tables.{IsTable}

-- it has the pass of one zone more
pub record HasOneMore {X : Type 0} {N : Ghosts X} (old new : ZonesPass X N) (p : Pass X N) : Type 0 where
  pub table : new.table ≡ old.table
  pub remembered : new.remembered ≡ old.remembered
  pub zones : new.zones.items ≡ old.zones.items ++ p ∷ []

-- each has one more, by their places
pub record AreHandedOut {X : Type 0} {N : Ghosts X} (old new : List (ZonesPass X N)) (passes : List (Pass X N)) : Type 0 where
  pub count : length new ≡ length old
  pub each : (k : ℕ) (p q : ZonesPass X N) (z : Pass X N) → slice_get old k ≡ Some p → slice_get new k ≡ Some q → slice_get passes k ≡ Some z → HasOneMore p q z

-- Each has the pass of the table that stands at its place, and of each zone the one that does. It remembers nothing.
pub record IsGrid {X : Type 0} {N : Ghosts X} (tables : List (Pass X N)) (zones : List (List (Pass X N))) (all : List (ZonesPass X N)) : Type 0 where
  pub count : length all ≡ length tables
  pub table : (k : ℕ) (p : ZonesPass X N) → slice_get all k ≡ Some p → slice_get tables k ≡ Some p.table
  pub remembered : (k : ℕ) (p : ZonesPass X N) → slice_get all k ≡ Some p → p.remembered.version ≡ None
  pub width : (k : ℕ) (p : ZonesPass X N) → slice_get all k ≡ Some p → length p.zones.items ≡ length zones
  pub zone : (k j : ℕ) (p : ZonesPass X N) (c : List (Pass X N)) (z : Pass X N) → slice_get all k ≡ Some p → slice_get zones j ≡ Some c → slice_get p.zones.items j ≡ Some z → slice_get c k ≡ Some z

-- it has seen version 0 of a zone alone, and has done nothing
pub record IsNew (z : ZoneItems) (v : Known) : Type 0 where
  pub sees : SeesFirst (entries_in z) v
  pub commits : commits_in v.pass ≡ []
  pub pinned : pinned_in v.pass ≡ []

-- the same of the table and of each zone
pub record IsNewPass {X : Type 0} {N : Ghosts X} (zones : List ZoneItems) (p : ZonesPass X N) : Type 0 where
  pub history : (table_known p).seen.history ≡ []
  pub commits : commits_in (table_known p).pass ≡ []
  pub pinned : pinned_in (table_known p).pass ≡ []
  pub each : (zone : ℕ) (z : ZoneItems) → slice_get zones zone ≡ Some z → IsNew z (zone_known p zone)

-- these are all passes of a table and of so many zones, of so many passes each
pub record AreAllPasses {X : Type 0} {N : Ghosts X} (count zones : ℕ) (all : List (ZonesPass X N)) : Type 0 where
  pub table : AreAll count (map (λ p. table_known p) all)
  pub each : (zone : ℕ) → zone < zones → AreAll count (map (λ p. zone_known p zone) all)

-- The passes of zones that were opened: all that there are, and each of them new. They know of one opening of the table.
pub record AreMade {X : Type 0} {N : Ghosts X} (zones : List ZoneItems) (count : ℕ) (all : List (ZonesPass X N)) : Type 0 where
  pub passes : All (IsPassOf (origins_of zones)) all
  pub new : All (IsNewPass zones) all
  pub count_is : length all ≡ count
  pub opening : List Entry
  pub table : IsTable (origins_of zones) opening
  pub opened : All (λ p. first_version (table_known p).seen ≡ opening) all
  pub every : AreAllPasses count (length zones) all

-- zones with a table of their origins, and the passes of all
pub record AreAssembled {T X : Type 0} {N : Ghosts X} (zones : List ZoneItems) (key : TableSize) (made : Zones T X N) (all : List (ZonesPass X N)) : Type 0 where
  pub origins : made.origins.items ≡ origins_of zones
  -- the table has this size
  pub table : made.table.shared.table.shared.key ≡ key
  pub passes : AreMade zones key.passes all

-- The same of zones that were opened on tables of these sizes.
pub record HaveOpened {T X : Type 0} {N : Ghosts X} (zones : List ZoneItems) (keys : List TableSize) (key : TableSize) (made : Zones T X N) (all : List (ZonesPass X N)) : Type 0 where
  pub origins : made.origins.items ≡ origins_of zones
  pub sizes : map (λ z. z.shared.table.shared.key) made.zones.items ≡ keys
  -- the table of the origins has this one
  pub table : made.table.shared.table.shared.key ≡ key
  pub passes : AreMade zones key.passes all
  -- each zone's trie is sure to find room
  pub fits : AllFit (places_of zones keys)
