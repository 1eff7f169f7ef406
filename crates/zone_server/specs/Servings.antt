-- Which zones a server has, and what a pass of it knows.
use Rattle.std.specs.Prelude.{◌≡◌, ℕ, List, map, Some, None, slice_get, unwrap_or}
use Rattle.zone_model.specs.Names.{Name}
use Rattle.qp_multi.specs.declared.meaning.Named.{Ghosts}
use Rattle.qp_multi.specs.Passes.{Known, first_version, known_at}
use Rattle.job_commands.specs.Histories.{IsZone}
use Rattle.zone_table.specs.declared.zones.Zones.{Zones}
use Rattle.zone_table.specs.declared.pass.ZonesPass.{ZonesPass}
use Rattle.zone_table.specs.Passes.{IsPassOf, table_known, zone_known, zones_known}
use Rattle.zone_server.specs.Homes.{Served}

abbrev pub origins_of : List Served → List Name
origins_of served = map (λ (s : Served). s.origin) served

-- these are the zones, each opened on a zone of its origin
pub record IsServed {X Y : Type 0} {N : Ghosts Y} (served : List Served) (zones : Zones X Y N) : Type 0 where
  pub origins : zones.origins.items ≡ origins_of served
  pub sizes : map (λ z. z.shared.table.shared.key) zones.zones.items ≡ map (λ (s : Served). s.size) served
  pub opened : (zone : ℕ) (s : Served) → slice_get served zone ≡ Some s → IsZone s.origin s.opening

-- what a pass knows of the table, and of each zone
pub record ServerKnown : Type 0 where
  pub table : Known
  pub zones : List Known

abbrev pub of_zone : ServerKnown → ℕ → Known
of_zone k zone = unwrap_or (slice_get k.zones zone) (known_at None)

abbrev pub known_of : {Y : Type 0} {N : Ghosts Y} → ZonesPass Y N → ServerKnown
known_of p = record { table = table_known p; zones = zones_known p }

-- a pass of these zones, which knows how each was opened
pub record IsServing {Y : Type 0} {N : Ghosts Y} (served : List Served) (p : ZonesPass Y N) : Type 0 where
  pub pass : IsPassOf (origins_of served) p
  pub opened : (zone : ℕ) (s : Served) → slice_get served zone ≡ Some s → first_version (zone_known p zone).seen ≡ s.opening
