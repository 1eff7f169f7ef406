-- What becomes of zones that are opened and run.
use Rattle.std.specs.Prelude.{◌≡◌, ◌≤◌, ℕ, List, Some, length, slice_get}
use Rattle.std.specs.List.{All, AllByRecursion, IsDistinct}
use Rattle.zone_model.specs.Names.{same_name}
use Rattle.zone_model.specs.MasterFile.{Zone}
use Rattle.job_commands.specs.Calls.{Call}
use Rattle.job_commands.specs.Histories.{IsZone, StandsAs}
use Rattle.shared_cells.specs.declared.view.TableSize.{TableSize}
use Rattle.zones_model.specs.Commands.{Command}
use Rattle.zones_model.specs.Commands as model
use Rattle.zones_model.specs.Outcomes.{passes_for}
use Rattle.zone_table.specs.declared.opening.ZoneItems.{ZoneItems}
use Rattle.zone_table.specs.declared.opening.ZonesRefusal.TheVariants as refusal
use Rattle.zone_table.specs.Openings.{AllFit, Place, RefusesZones, entries_in, origins_of}
use Rattle.zones_threads.specs.declared.opening.ZonesRan.{ZonesRan}
use Rattle.zones_threads.specs.declared.opening.ZonesRan.TheVariants.{Finished, DoesNotFit}
use Rattle.zones_report.specs.Telling.{last_of}
use Rattle.zones_threads.specs.Calls.{AllHeard}
use Rattle.zones_threads.specs.Runs.{IsZonesRun}
use Rattle.zones_threads.specs.Sites.{IsSaid}

-- the items are those of these zones
pub record StandFor (items : List ZoneItems) (zones : List Zone) : Type 0 where
  pub origins : model.origins_of zones ≡ origins_of items
  pub each : (number : ℕ) (z : ZoneItems) (zone : Zone) → slice_get items number ≡ Some z → slice_get zones number ≡ Some zone → StandsAs (entries_in z) zone.pairs

-- A table for the origins of one to sixteen zones, which differ, and one for each zone, all for the passes of at most sixteen workers. The
-- workers' blocks ask for changes of their zones.
pub record CanRunZones (table : TableSize) (sizes : List TableSize) (items : List ZoneItems) (many : ℕ) (workers : List (List Command)) : Type 0 where
  pub table_chunks : table.chunks ≡ 512
  pub table_passes : table.passes ≡ passes_for many
  pub few_workers : many ≤ 16
  pub passes : All (λ s. s.passes ≡ table.passes) sizes
  pub some : 1 ≤ length items
  pub few : length items ≤ 16
  pub each : length sizes ≡ length items
  pub different : IsDistinct same_name (origins_of items)
  pub zones : All (λ z. IsZone z.origin (entries_in z)) items
  pub said : AllByRecursion (AllByRecursion (IsSaid (origins_of items))) workers

-- each zone fits, and the workers were run; or one doesn't, the first in canonical order, and both numbers are told
abbrev pub ZonesRanOn : List Place → ℕ → List Zone → List (List Command) → ZonesRan → Type 0
ZonesRanOn places chunks zones workers (Finished f) = AllFit places × IsZonesRun chunks zones workers f.done.items (last_of f) f.attached f.names.items
ZonesRanOn places chunks zones workers (DoesNotFit zone cells limit) = RefusesZones places (refusal.Full zone cells limit)

-- where the workers were run, the gate was told of all of their commands
abbrev pub HeardOn : (Call → Type 0) → List (List Command) → ZonesRan → Type 0
HeardOn hears workers (Finished f) = AllHeard hears 1 workers
HeardOn hears workers (DoesNotFit zone cells limit) = Unit {0}
