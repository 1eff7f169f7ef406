-- The zones of a run.
use Rattle.std.specs.Prelude.{◌≡◌, ◌<◌, ℕ, List, Some, length, slice_get}
use Rattle.zone_model.specs.Names.{Name}
use Rattle.report_laws.specs.Changes.{AllSaid}
use Rattle.shared_cells.specs.declared.view.TableSize.{TableSize}
use Rattle.qp_multi.specs.declared.meaning.Named.{Ghosts}
use Rattle.qp_multi.specs.declared.index.Index.{Index}
use Rattle.zones_model.specs.Commands.{Command, Get, Block, Attach, Detach}
use Rattle.zone_table.specs.declared.zones.Zones.{Zones}
use Rattle.zone_table.specs.declared.pass.ZonesPass.{ZonesPass}
use Rattle.zone_table.specs.Passes.{zone_known}
use Rattle.job_commands.specs.Commands.{OpensAt}

-- a zone by its number, with its origin and the size of its index
pub record Site : Type 0 where
  pub number : ℕ
  pub origin : Name
  pub size : TableSize

-- it is one of these zones
pub record IsSite {X Y : Type 0} {N : Ghosts Y} (zones : Zones X Y N) (site : Site) : Type 0 where
  pub origin : slice_get zones.origins.items site.number ≡ Some site.origin
  pub index : Index X Y N
  pub there : slice_get zones.zones.items site.number ≡ Some index
  pub size : site.size ≡ index.shared.table.shared.key

-- the pass knows of each zone's opening, whose first name is the zone's origin
abbrev pub Opens : {X Y : Type 0} {N : Ghosts Y} → Zones X Y N → ZonesPass Y N → Type 0
Opens zones p = (site : Site) → IsSite zones site → OpensAt site.origin (zone_known p site.number)

-- what a command says of a zone is of one that there is, and as scripts of octets say it
abbrev pub IsSaid : List Name → Command → Type 0
IsSaid origins (Get name rtype) = Unit {0}
IsSaid origins (Block zone _ asked ending) = (zone < length origins) × ((origin : Name) → slice_get origins zone ≡ Some origin → AllSaid origin asked)
IsSaid origins (Attach zone) = zone < length origins
IsSaid origins (Detach zone) = zone < length origins
