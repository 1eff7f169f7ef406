-- What a server is opened with.
use Rattle.std.specs.Prelude.{◌≡◌, ◌≤◌, ℕ, List, map, All, length}
use Rattle.std.specs.List.{IsDistinct}
use Rattle.zone_model.specs.Names.{Name, same_name}
use Rattle.atomic_table.specs.Seated.{TableId}
use Rattle.shared_cells.specs.declared.view.TableSize.{TableSize}
use Rattle.job_commands.specs.Histories.{IsZone}
use Rattle.zone_table.specs.Openings.{Place, entries_in, origins_of, places_of}
use Rattle.zone_table.specs.declared.opening.ZoneItems.{ZoneItems}
use Rattle.zone_server.specs.Homes.{Served}

abbrev pub origin_in : ZoneItems → Name
origin_in z = z.origin

-- a zone, as it is served on a table of this size
abbrev pub served_at : Place → Served
served_at p = record { origin = p.zone.origin; size = p.size; opening = entries_in p.zone }

abbrev pub served_of : List ZoneItems → List TableSize → List Served
served_of zones sizes = map served_at (places_of zones sizes)

-- Zones of different origins, at most sixteen, each with a table for so many passes; and the table of their origins, for as many.
pub record IsOpening (passes : ℕ) (zones : List ZoneItems) (sizes : List TableSize) (table : TableSize) : Type 0 where
  pub table_chunks : table.chunks ≡ 512
  pub table_passes : table.passes ≡ passes
  pub some_passes : 1 ≤ passes
  pub few_passes : passes ≤ 17
  pub passes_are : All (λ (s : TableSize). s.passes ≡ passes) sizes
  pub few : length zones ≤ 16
  pub each : length sizes ≡ length zones
  pub different : IsDistinct same_name (origins_of zones)
  pub are_zones : All (λ z. IsZone z.origin (entries_in z)) zones

-- how many passes there are to be, the zones, and the names of their tables, that of the origins first
pub record OpeningView : Type 0 where
  pub passes : ℕ
  pub zones : List Served
  pub tables : List TableId
