-- A job over several zones: the zones, and the commands of each worker.
use Rattle.std.specs.Prelude.{ℕ, List, map, Result, Ok, Err}
use Rattle.zone_model.specs.Refusals.{Refused, ◌>>=◌}
use Rattle.zone_model.specs.declared.ZoneKind.{ZoneKind}
use Rattle.job_model.specs.declared.ScriptKind.{ScriptKind}
use Rattle.job_model.specs.Jobs.{zone_lines, script_lines, script_start}
use Rattle.zone_list.specs.Lists.{zones_of}
use Rattle.zones_model.specs.Commands.{Job}
use Rattle.zones_script.specs.Scripts.{script_of}

-- why bytes are no job over zones
pub data ZonesRefusal : Type 0 where
  ListRefused : (refused : Refused ZoneKind) → ZonesRefusal
  ScriptRefused : (refused : Refused ScriptKind) → ZonesRefusal

abbrev pub list_refused : {A : Type 0} → Result A (Refused ZoneKind) → Result A ZonesRefusal
list_refused (Ok x) = Ok x
list_refused (Err e) = Err (ListRefused e)

abbrev pub script_refused : {A : Type 0} → Result A (Refused ScriptKind) → Result A ZonesRefusal
script_refused (Ok x) = Ok x
script_refused (Err e) = Err (ScriptRefused e)

-- the job that the zones' lines and a script's say, the first of which has a number
unfoldable pub zones_job_of_lines : List (List ℕ) → ℕ → List (List ℕ) → Result Job ZonesRefusal
zones_job_of_lines lines start script = do
  zones ← list_refused (zones_of lines)
  workers ← script_refused (script_of (map (λ zone. zone.origin) zones) start script)
  Ok (record { zones = zones; workers = workers })

-- the job that bytes say, or the first refusal
abbrev pub zones_job_of : List ℕ → Result Job ZonesRefusal
zones_job_of bytes = zones_job_of_lines (zone_lines bytes) (script_start bytes) (script_lines bytes)
