-- Why an input has no answer of its own.
use Rattle.std.specs.Prelude.{◌≡◌, ℕ, List, Result, Ok, Err}
use Rattle.zone_model.specs.Refusals.{Refused}
use Rattle.zone_model.specs.MasterFile.{Zone}
use Rattle.zone_model.specs.Versions.{Version}
use Rattle.zone_model.specs.declared.ZoneKind.{ZoneKind}
use Rattle.job_model.specs.Jobs.{JobRefusal}
use Rattle.zone_text.specs.declared.refusal.ZoneRefusal.{ZoneRefusal}
use Rattle.zone_model.specs.declared.ZoneKind.TheVariants.{Memory}
use Rattle.job_model.specs.declared.ScriptKind.{ScriptKind}
use Rattle.qp_main.specs.Due.{JobRefuses, Refuses, ScriptRefuses, ZoneRefuses}
use Rattle.qp_main.specs.declared.status.Status.{Status}
use Rattle.qp_main.specs.declared.refusing.Stop.{Stop}
use Rattle.qp_main.specs.declared.refusing.Stop.TheVariants as stop

-- A zone that its reader refused is told with its line. Memory is wanting just where the reader wanted it.
abbrev pub ZoneStopsFor : ZoneRefusal → Stop → Type 0
ZoneStopsFor e (stop.Refused s text) = Refuses e s text
ZoneStopsFor e stop.Memory = e.kind ≡ Memory

-- the same of a script's refusal, behind what was read of the zone
abbrev pub ScriptStopsFor : Result Zone ZoneRefusal → Refused ScriptKind → Stop → Type 0
ScriptStopsFor (Ok zone) e (stop.Refused s text) = ScriptRefuses e s text
ScriptStopsFor (Ok zone) e stop.Memory = ⊥
ScriptStopsFor (Err r) e s = ZoneStopsFor r s

-- ---- what is told of an input that is refused

-- its zone is
abbrev pub ZoneStops : Result Version (Refused ZoneKind) → Status → List ℕ → Type 0
ZoneStops (Ok zone) s text = ⊥
ZoneStops (Err e) s text = ZoneRefuses e s text

-- its zone or its script is
abbrev pub JobStops : {J : Type 0} → Result J JobRefusal → Status → List ℕ → Type 0
JobStops (Ok job) s text = ⊥
JobStops (Err e) s text = JobRefuses e s text

-- one of several zones is
abbrev pub ListStops : Result (List Zone) (Refused ZoneKind) → Status → List ℕ → Type 0
ListStops (Ok zones) s text = ⊥
ListStops (Err e) s text = ZoneRefuses e s text

-- its script over several zones is
abbrev pub ScriptStops : {W : Type 0} → Result W (Refused ScriptKind) → Status → List ℕ → Type 0
ScriptStops (Ok workers) s text = ⊥
ScriptStops (Err e) s text = ScriptRefuses e s text

-- what is told is due
abbrev pub IsStop : (Status → List ℕ → Type 0) → Stop → Type 0
IsStop due (stop.Refused s text) = due s text
IsStop due stop.Memory = Unit {0}
