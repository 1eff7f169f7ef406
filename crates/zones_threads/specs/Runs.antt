-- What a run over several zones comes to.
use Rattle.std.specs.Prelude.{◌≡◌, ℕ, List, length, Some, slice_get}
use Rattle.zone_model.specs.MasterFile.{Zone}
use Rattle.zone_model.specs.Names.{Name}
use Rattle.qp_multi.specs.Closings.{AreAll}
use Rattle.qp_multi.specs.Passes.{Known}
use Rattle.job_commands.specs.Histories.{Entries, StandsAs}
use Rattle.job_commands.specs.Works.{AreNew}
use Rattle.zones_model.specs.Commands.{Command, origins_of}
use Rattle.zones_model.specs.Outcomes.{Last, ZonesLawful, all_done, attached_at}
use Rattle.zones_model.specs.Tables.{attached_count}
use Rattle.zones_model.specs.Reports.{set_of}
use Rattle.zone_table.specs.Tables.{IsTable}
use Rattle.zones_report.specs.declared.outcomes.CommandEnds.{CommandEnds}
use Rattle.zones_threads.specs.Sites.{Site}
use Rattle.zones_threads.specs.Tellings.{WorkersTell}
use Rattle.zones_report.specs.Outcomes.{AllAreOf, all_dones_view}

-- ---- as it begins

-- All passes of a table of these origins, which have done nothing.
pub record TableBegins (origins : List Name) (count : ℕ) (views : List Known) : Type 0 where
  pub opening : Entries
  pub table : IsTable origins opening
  pub new : AreNew opening views
  pub all : AreAll count views

-- All passes of a zone's index, which have done nothing: the index was opened on the zone, and has so many chunks and passes.
pub record ZoneBegins (chunks count : ℕ) (site : Site) (zone : Zone) (views : List Known) : Type 0 where
  pub origin : site.origin ≡ zone.origin
  pub opening : Entries
  pub stands : StandsAs opening zone.pairs
  pub new : AreNew opening views
  pub all : AreAll count views
  pub passes : site.size.passes ≡ count
  pub chunks_are : site.size.chunks ≡ chunks

-- ---- as it ends

-- The outcomes are lawful, each is of its command's kind and tells what is so, the table's last version has so many zones, and each zone's so many names.
pub record IsZonesRun (chunks : ℕ) (zones : List Zone) (workers : List (List Command)) (ds : List CommandEnds) (last : Last) (attached : ℕ) (names : List ℕ) : Type 0 where
  pub kinds : AllAreOf workers ds
  pub lawful : ZonesLawful chunks zones (all_dones_view workers ds) last
  pub tell : WorkersTell zones (set_of zones (all_dones_view workers ds)) workers ds
  pub attached_are : attached ≡ attached_count (attached_at (all_done (all_dones_view workers ds)) last.table) 0 (origins_of zones)
  pub many : length names ≡ length zones
  pub names_are : (number : ℕ) (zone : Zone) → slice_get zones number ≡ Some zone → (version count : ℕ) → slice_get last.zones number ≡ Some version → slice_get names number ≡ Some count
      → count ≡ length (set_of zones (all_dones_view workers ds) number version)
