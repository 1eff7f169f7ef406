-- How the table and each zone end.
use Rattle.std.specs.Prelude.{◌≡◌, ℕ, List, length}
use Rattle.std.specs.List.{AllByRecursion}
use Rattle.zone_model.specs.MasterFile.{Zone}
use Rattle.zone_model.specs.Names.{Name}
use Rattle.job_model.specs.Outcomes as one
use Rattle.qp_multi.specs.Closings.{AreAll}
use Rattle.qp_multi.specs.Passes.{Known}
use Rattle.job_commands.specs.Histories.{OpenedWith, StandsAs}
use Rattle.zones_model.specs.Commands.{Command}
use Rattle.zones_model.specs.Outcomes as model
use Rattle.zones_model.specs.Outcomes.{TableLawful, workers_in, version_of}
use Rattle.zones_model.specs.Tables.{attached_count}
use Rattle.zone_table.specs.Tables.{IsTable}
use Rattle.zones_report.specs.declared.outcomes.CommandEnds.{CommandEnds}
use Rattle.zones_threads.specs.Closings.{TableGathers, ZoneGathers, all_parts}
use Rattle.zones_threads.specs.Sites.{Site}
use Rattle.zones_threads.specs.Tellings.{PartsTell}
use Rattle.zones_report.specs.Outcomes.{AllAreOf, all_dones_view}
use Rattle.zones_threads.specs.Works.{AreApart, TableOpenedWith}

-- The last version of the table, and how many zones it has.
pub record TableEnd (origins : List Name) (dones : List (List model.CommandEnd)) (version attached : ℕ) : Type 0 where
  pub lawful : TableLawful origins dones version
  pub attached_are : attached ≡ attached_count (model.attached_at (model.all_done dones) version) 0 origins

-- The last version of a zone, and how many names it has; and what is of the zone tells what is so.
pub record ZoneEnd (chunks passes : ℕ) (zone : Zone) (number version names : ℕ) (workers : List (List Command)) (ds : List CommandEnds) : Type 0 where
  pub lawful : one.Lawful chunks passes zone.origin zone.pairs (workers_in number (all_dones_view workers ds)) version
  pub names_are : names ≡ length (version_of zone number (all_dones_view workers ds) version)
  pub tells : AllByRecursion (PartsTell zone.origin (version_of zone number (all_dones_view workers ds))) (all_parts number workers ds)

-- All passes of an index were handed in, these and main's. Whichever workers were gathered, on whichever opening: they have come to this last version.

abbrev pub EndsTable : List Name → ℕ → List Known → Known → ℕ → ℕ → Type 0
EndsTable origins count views main version attached =
    (b : TableOpenedWith) (before : List Known) (dones : List (List model.CommandEnd)) → b.origins ≡ origins → AreApart b.origins → IsTable b.origins b.opening → TableGathers b before dones views main
    → length before ≡ count → AreAll count before → TableEnd b.origins dones version attached

abbrev pub EndsZone : Site → List Known → Known → ℕ → ℕ → Type 0
EndsZone site views main version names =
    (s : OpenedWith) (zone : Zone) (before : List Known) (ws : List (List Command)) (ds : List CommandEnds) → AllAreOf ws ds → ZoneGathers s site.number before ws ds views main → s.origin ≡ zone.origin → StandsAs s.opening zone.pairs
    → length before ≡ site.size.passes → AreAll site.size.passes before → ZoneEnd s.chunks s.passes zone site.number version names ws ds
