-- What is told of an input that is refused is due for it.
use Rattle.std.proofs.Common.{◌≡◌, ◌∙◌, ℕ, List, Result, Ok, Err, sym, ap, subst}
use Rattle.zone_model.specs.Names.{Name}
use Rattle.zone_model.specs.Versions.{Version}
use Rattle.zone_model.specs.Refusals.{Refused, ◌>>=◌}
use Rattle.zone_model.specs.MasterFile.{Zone, zone_at, zone_of}
use Rattle.zone_model.specs.declared.Style.{Style}
use Rattle.zone_model.specs.declared.ZoneKind.{ZoneKind}
use Rattle.job_model.specs.Commands.{Command, FedJob, Job}
use Rattle.job_model.specs.Jobs.{JobRefusal, zone_lines, script_lines, script_start, script_of, list_of, zone_refused, script_refused, job_of, job_of_lines, fed_job_of, fed_job_of_lines}
use Rattle.job_model.specs.declared.ScriptKind.{ScriptKind}
use Rattle.zone_text.specs.Views.{Reads}
use Rattle.zone_text.specs.declared.refusal.ZoneRefusal.{ZoneRefusal}
use Rattle.zone_diff.specs.declared.DiffStyle.{DiffStyle}
use Rattle.zone_diff.specs.declared.Serial.{Serial}
use Rattle.qp_main.specs.Due.{Answers, Checks, Differs, Dumps, FedAnswers, RefusesScript, Sizes}
use Rattle.qp_main.specs.Stops.{IsStop, JobStops, ZoneStops, ZoneStopsFor}
use Rattle.qp_main.specs.declared.refusing.Stop.{Stop}
use Rattle.qp_main.specs.declared.refusing.Stop.TheVariants as stops
use Rattle.qp_main.specs.declared.status.Status.{Status}
use Rattle.qp_main.specs.declared.run_report.Telling.{Telling}
use Rattle.qp_main.proofs.DueLemmas.{stop_as}

-- a zone that its reader refused, whose lines are those of some bytes
pub zone_is_refused : (origin : Name) (lines wanted : List (List ℕ)) (r : ZoneRefusal) (s : Stop) → lines ≡ wanted → Reads {R = Zone} (Err r) (λ z. z.pairs) (zone_of origin lines) → ZoneStopsFor r s → IsStop (ZoneStops (zone_of origin wanted)) s
zone_is_refused origin lines wanted r (stops.Refused status text) same z h = subst (λ (x : Result Version (Refused ZoneKind)). ZoneStops x status text) (sym (ap (zone_of origin) (sym same) ∙ z h.0)) h.1
zone_is_refused origin lines wanted r stops.Memory same z h = tt

-- the same of lines that begin with another number
pub zone_from_is_refused : (first wanted_first : ℕ) (origin : Name) (lines wanted : List (List ℕ)) (r : ZoneRefusal) (s : Stop) → first ≡ wanted_first → lines ≡ wanted → Reads {R = Zone} (Err r) (λ z. z.pairs) (zone_at first origin lines) → ZoneStopsFor r s
    → IsStop (ZoneStops (zone_at wanted_first origin wanted)) s
zone_from_is_refused first wanted_first origin lines wanted r (stops.Refused status text) number same z h =
    subst (λ (x : Result Version (Refused ZoneKind)). ZoneStops x status text) (sym (ap (λ (n : ℕ). zone_at n origin wanted) (sym number) ∙ ap (zone_at first origin) (sym same) ∙ z h.0)) h.1
zone_from_is_refused first wanted_first origin lines wanted r stops.Memory number same z h = tt

-- ---- two zones

pub first_stops : (style : DiffStyle) (serial : Serial) (origin : Name) (first second : Result Version (Refused ZoneKind)) (s : Stop) → IsStop (ZoneStops first) s → IsStop (Differs style serial origin first second) s
first_stops style serial origin (Ok zone) second (stops.Refused status text) h = absurd h
first_stops style serial origin (Ok zone) second stops.Memory h = tt
first_stops style serial origin (Err e) second (stops.Refused status text) h = h
first_stops style serial origin (Err e) second stops.Memory h = tt

pub second_stops : (style : DiffStyle) (serial : Serial) (origin : Name) (first second : Result Version (Refused ZoneKind)) (before : Version) (s : Stop) → first ≡ Ok before → IsStop (ZoneStops second) s → IsStop (Differs style serial origin first second) s
second_stops style serial origin (Err e) second before s is h = absurd cc
second_stops style serial origin (Ok zone) (Ok after) before (stops.Refused status text) is h = absurd h
second_stops style serial origin (Ok zone) (Ok after) before stops.Memory is h = tt
second_stops style serial origin (Ok zone) (Err e) before (stops.Refused status text) is h = h
second_stops style serial origin (Ok zone) (Err e) before stops.Memory is h = tt

-- ---- a zone that is only read

pub dump_stops : (chunks : ℕ) (style : Style) (origin : Name) (r : Result Version (Refused ZoneKind)) (s : Stop) → IsStop (ZoneStops r) s → IsStop (Dumps chunks style origin r) s
dump_stops chunks style origin (Ok zone) (stops.Refused status text) h = absurd h
dump_stops chunks style origin (Ok zone) stops.Memory h = tt
dump_stops chunks style origin (Err e) (stops.Refused status text) h = h
dump_stops chunks style origin (Err e) stops.Memory h = tt

pub check_stops : (chunks : ℕ) (r : Result Version (Refused ZoneKind)) (s : Stop) → IsStop (ZoneStops r) s → IsStop (Checks chunks r) s
check_stops chunks (Ok zone) (stops.Refused status text) h = absurd h
check_stops chunks (Ok zone) stops.Memory h = tt
check_stops chunks (Err e) (stops.Refused status text) h = h
check_stops chunks (Err e) stops.Memory h = tt

-- ---- a job

pub answers_stop : (telling : Telling) (chunks : ℕ) (r : Result Job JobRefusal) (s : Stop) → IsStop (JobStops r) s → IsStop (Answers telling chunks r) s
answers_stop telling chunks (Ok job) (stops.Refused status text) h = absurd h
answers_stop telling chunks (Ok job) stops.Memory h = tt
answers_stop telling chunks (Err e) (stops.Refused status text) h = h
answers_stop telling chunks (Err e) stops.Memory h = tt

pub sizes_stop : (r : Result Job JobRefusal) (s : Stop) → IsStop (JobStops r) s → IsStop (Sizes r) s
sizes_stop (Ok job) (stops.Refused status text) h = absurd h
sizes_stop (Ok job) stops.Memory h = tt
sizes_stop (Err e) (stops.Refused status text) h = h
sizes_stop (Err e) stops.Memory h = tt

pub fed_answers_stop : (workers chunks : ℕ) (r : Result FedJob JobRefusal) (s : Stop) → IsStop (JobStops r) s → IsStop (FedAnswers workers chunks r) s
fed_answers_stop workers chunks (Ok job) (stops.Refused status text) h = absurd h
fed_answers_stop workers chunks (Ok job) stops.Memory h = tt
fed_answers_stop workers chunks (Err e) (stops.Refused status text) h = h
fed_answers_stop workers chunks (Err e) stops.Memory h = tt

-- a job is a zone and what is read behind it, or what is refused of these
abbrev joined : {W J : Type 0} → Result Version (Refused ZoneKind) → Result W (Refused ScriptKind) → (Version → W → J) → Result J JobRefusal
joined zone script make = zone_refused zone >>= (λ version. script_refused script >>= (λ read. Ok (make version read)))

module _ {W J : Type 0} (script : Result W (Refused ScriptKind)) (make : Version → W → J) where
  by_zone : (zone : Result Version (Refused ZoneKind)) (s : Status) (text : List ℕ) → ZoneStops zone s text → JobStops (joined zone script make) s text
  by_zone (Ok version) s text h = absurd h
  by_zone (Err e) s text h = h

  by_script : (e : Refused ScriptKind) → script ≡ Err e → (zone : Result Version (Refused ZoneKind)) (s : Status) (text : List ℕ) → RefusesScript zone e s text → JobStops (joined zone script make) s text
  by_script e w (Ok version) s text h = subst (λ (x : Result W (Refused ScriptKind)). JobStops (joined (Ok version) x make) s text) (sym w) h
  by_script e w (Err why) s text h = h

module _ (origin : Name) (bytes : List ℕ) where
  abbrev job_with : Version → List (List Command) → Job
  job_with zone workers = record { origin = origin; zone = zone; workers = workers }

  abbrev list_with : Version → List Command → FedJob
  list_with zone commands = record { origin = origin; zone = zone; commands = commands }

  -- its zone is refused
  pub job_zone_stops : (s : Stop) → IsStop (ZoneStops (zone_of origin (zone_lines bytes))) s → IsStop (JobStops (job_of origin bytes)) s
  unfolding job_of_lines
  job_zone_stops s h = stop_as _ _ s (by_zone (script_of origin (script_start bytes) (script_lines bytes)) job_with (zone_of origin (zone_lines bytes))) h

  pub fed_zone_stops : (s : Stop) → IsStop (ZoneStops (zone_of origin (zone_lines bytes))) s → IsStop (JobStops (fed_job_of origin bytes)) s
  unfolding fed_job_of_lines
  fed_zone_stops s h = stop_as _ _ s (by_zone (list_of origin (script_start bytes) (script_lines bytes)) list_with (zone_of origin (zone_lines bytes))) h

  -- its script is
  module _ (e : Refused ScriptKind) (s : Stop) (told : IsStop (RefusesScript (zone_of origin (zone_lines bytes)) e) s) where
    pub job_script_stops : script_of origin (script_start bytes) (script_lines bytes) ≡ Err e → IsStop (JobStops (job_of origin bytes)) s
    unfolding job_of_lines
    job_script_stops w = stop_as _ _ s (by_script (script_of origin (script_start bytes) (script_lines bytes)) job_with e w (zone_of origin (zone_lines bytes))) told

    pub fed_script_stops : list_of origin (script_start bytes) (script_lines bytes) ≡ Err e → IsStop (JobStops (fed_job_of origin bytes)) s
    unfolding fed_job_of_lines
    fed_script_stops w = stop_as _ _ s (by_script (list_of origin (script_start bytes) (script_lines bytes)) list_with e w (zone_of origin (zone_lines bytes))) told
