-- What workers of several zones are given, and what they come to.
use Rattle.std.specs.Prelude.{◌≡◌, ℕ, ◌+◌, ◌∷◌, List, length, All}
use Rattle.std.specs.List.{AllByRecursion}
use Rattle.qp_multi.specs.declared.meaning.Named.{Ghosts}
use Rattle.job_commands.specs.Commands.{IsIndex}
use Rattle.job_commands.specs.Histories.{OpenedWith}
use Rattle.job_commands.specs.Works.{AreNew, IsNew}
use Rattle.zones_model.specs.Commands.{Command}
use Rattle.zones_model.specs.Outcomes.{passes_for}
use Rattle.zone_table.specs.declared.zones.Zones.{Zones}
use Rattle.zone_table.specs.declared.pass.ZonesPass.{ZonesPass}
use Rattle.zone_table.specs.Passes.{IsPassOf, table_known, zone_known}
use Rattle.zones_report.specs.Outcomes.{AllAreOf, AreOf, all_dones_view, dones_view}
use Rattle.zones_report.specs.declared.outcomes.CommandEnd.{CommandEnd}
use Rattle.zones_report.specs.declared.outcomes.CommandEnds.{CommandEnds}
use Rattle.zones_threads.specs.Closings.{TableGathers, ZoneGathers, table_views, zone_views}
use Rattle.zones_threads.specs.Sites.{IsSaid, IsSite, Opens, Site}
use Rattle.zones_threads.specs.Works.{TableOpenedWith, TableWork, ZonesRan}
use Rattle.zones_threads.specs.declared.job.Gathered.{Gathered}
use Rattle.zones_threads.specs.declared.worker.Ended.{Ended}

-- ---- one worker

-- A worker may run these commands by this pass.
pub record MayWork {X Y : Type 0} {N : Ghosts Y} (zones : Zones X Y N) (p : ZonesPass Y N) (cs : List Command) : Type 0 where
  pub pass : IsPassOf zones.origins.items p
  pub opens : Opens zones p
  pub said : AllByRecursion (IsSaid zones.origins.items) cs

-- It has run them, and its pass is back.
pub record HasWorked {X Y : Type 0} {N : Ghosts Y} (zones : Zones X Y N) (first now : ZonesPass Y N) (cs : List Command) (ds : List CommandEnd) : Type 0 where
  pub pass : IsPassOf zones.origins.items now
  pub kinds : AreOf cs ds
  pub ran : ZonesRan zones first now cs ds
  pub table : (b : TableOpenedWith) (number : ℕ) → b.origins ≡ zones.origins.items → IsNew number b.opening (table_known first) → TableWork b number (table_known now) (dones_view cs ds)

-- ---- all workers

-- There is a pass for each worker, and one for main.
pub record MayRun {X Y : Type 0} {N : Ghosts Y} (zones : Zones X Y N) (ps : List (ZonesPass Y N)) (ws : List (List Command)) : Type 0 where
  pub count : length ps ≡ length ws + 1
  pub passes : All (IsPassOf zones.origins.items) ps
  pub opens : All (Opens zones) ps
  pub said : AllByRecursion (AllByRecursion (IsSaid zones.origins.items)) ws

-- All workers are done, and all passes are back. Main's has learnt what they have seen, of each zone and of the table.
pub record AreGathered {X Y : Type 0} {N : Ghosts Y} (zones : Zones X Y N) (before : List (ZonesPass Y N)) (ws : List (List Command)) (ds : List CommandEnds) (after : List (ZonesPass Y N)) (m : ZonesPass Y N) : Type 0 where
  pub main : IsPassOf zones.origins.items m
  pub passes : All (IsPassOf zones.origins.items) after
  pub kinds : AllAreOf ws ds
  pub each : (site : Site) (s : OpenedWith) → IsSite zones site → IsIndex s site.origin site.size → AreNew s.opening (zone_views site.number before)
      → ZoneGathers s site.number (zone_views site.number before) ws ds (zone_views site.number after) (zone_known m site.number)
  pub table : (b : TableOpenedWith) → b.origins ≡ zones.origins.items → AreNew b.opening (table_views before) → TableGathers b (table_views before) (all_dones_view ws ds) (table_views after) (table_known m)

-- what a worker did stands in front of what others did
pub record StandsInFront {Y : Type 0} {N : Ghosts Y} (e : Ended Y N) (others g : Gathered Y N) : Type 0 where
  pub done : g.done.items ≡ e.done ∷ others.done.items
  pub table : table_views g.passes.items ≡ table_known e.pass ∷ table_views others.passes.items
  pub zones : (zone : ℕ) → zone_views zone g.passes.items ≡ zone_known e.pass zone ∷ zone_views zone others.passes.items

-- All passes of zones that were opened, for so many workers, and what these are to run.
pub record CanStart {X Y : Type 0} {N : Ghosts Y} (zones : Zones X Y N) (ps : List (ZonesPass Y N)) (many : ℕ) (ws : List (List Command)) : Type 0 where
  pub count : length ps ≡ passes_for many
  pub size : zones.table.shared.table.shared.key.passes ≡ length ps
  pub passes : All (IsPassOf zones.origins.items) ps
  pub opens : All (Opens zones) ps
  pub said : AllByRecursion (AllByRecursion (IsSaid zones.origins.items)) ws
