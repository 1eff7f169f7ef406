-- What a gate was told of is so of the commands that bytes say.
use Rattle.std.proofs.Common.{◌≡◌, ◌∙◌, ℕ, ◌+◌, ◌<◌, ◌≤◌, List, [], ◌∷◌, length, Option, Some, Result, Ok, Err, IfOk, zero, suc, ap, sym, subst, arith}
use Rattle.zone_model.specs.Names.{Name}
use Rattle.zone_model.specs.Versions.{Version}
use Rattle.zone_model.specs.Refusals.{Refused}
use Rattle.zone_model.specs.MasterFile.{Zone, zone_of}
use Rattle.zone_model.specs.declared.ZoneKind.{ZoneKind}
use Rattle.job_model.specs.Commands.{Command}
use Rattle.job_model.specs.Jobs.{JobRefusal, ZoneRefused, ScriptRefused, fed_job_of, job_of, list_of, script_lines, script_of, script_start, zone_lines}
use Rattle.job_model.specs.Loads.{Load, made_text}
use Rattle.job_model.specs.declared.ScriptKind.{ScriptKind}
use Rattle.command_line.specs.Invocations.{Invocation, Verb, Make}
use Rattle.job_commands.specs.Calls.{AllHeard, Call, IsHeard}
use Rattle.job_report.specs.declared.outcomes.FedOutcome.{FedOutcome}
use Rattle.feed_threads.specs.Feeds.{AllFedHeard, EachHeard}
use Rattle.job_report.specs.declared.pieces.Pieces.{Pieces}
use Rattle.qp_main.specs.Due.{IsAnswerDue, IsWritten, input_of}
use Rattle.qp_main.specs.Heard.{FedJobHeard, HasRun, Heard, HeardGiven, HeardInput, JobHeard, ListHeard, WhereRun}
use Rattle.qp_main.specs.Stops.{IsStop, JobStops, ListStops, ScriptStops, ZoneStops}
use Rattle.qp_main.specs.declared.refusing.Stop.{Stop}
use Rattle.qp_main.specs.declared.refusing.Stop.TheVariants as stops
use Rattle.qp_main.specs.declared.status.Status.{Status}
use Rattle.qp_main.specs.declared.status.Status.TheVariants as status
use Rattle.qp_main.proofs.DueLemmas.{whole_job, whole_list}

-- what was run is told by a status that is written
pub run_written : (s : Status) → HasRun s → IsWritten s
run_written status.Done ran = tt
run_written status.SomeRefused ran = tt
run_written status.WordsRefused ran = absurd ran
run_written status.ZoneRefused ran = absurd ran
run_written status.ScriptRefused ran = absurd ran
run_written status.SourceFault ran = absurd ran
run_written status.SinkFault ran = absurd ran
run_written status.NoMemory ran = absurd ran
run_written status.TooLong ran = absurd ran
run_written status.DoesNotFit ran = absurd ran
run_written status.Differ ran = absurd ran

-- ---- an input that is refused isn't run

module _ (so : Type 0) where
  pub zone_unrun : (r : Result Version (Refused ZoneKind)) (s : Stop) → IsStop (ZoneStops r) s → IsStop (WhereRun so) s
  zone_unrun (Ok zone) (stops.Refused status text) h = absurd h
  zone_unrun (Ok zone) stops.Memory h = tt
  zone_unrun (Err e) (stops.Refused status text) h = λ ran. absurd (subst HasRun h.0 ran)
  zone_unrun (Err e) stops.Memory h = tt

  pub job_unrun : {J : Type 0} (r : Result J JobRefusal) (s : Stop) → IsStop (JobStops r) s → IsStop (WhereRun so) s
  job_unrun (Ok job) (stops.Refused status text) h = absurd h
  job_unrun (Ok job) stops.Memory h = tt
  job_unrun (Err (ZoneRefused e)) (stops.Refused status text) h = λ ran. absurd (subst HasRun h.0 ran)
  job_unrun (Err (ZoneRefused e)) stops.Memory h = tt
  job_unrun (Err (ScriptRefused e)) (stops.Refused status text) h = λ ran. absurd (subst HasRun h.0 ran)
  job_unrun (Err (ScriptRefused e)) stops.Memory h = tt

  pub zones_unrun : (r : Result (List Zone) (Refused ZoneKind)) (s : Stop) → IsStop (ListStops r) s → IsStop (WhereRun so) s
  zones_unrun (Ok zones) (stops.Refused status text) h = absurd h
  zones_unrun (Ok zones) stops.Memory h = tt
  zones_unrun (Err e) (stops.Refused status text) h = λ ran. absurd (subst HasRun h.0 ran)
  zones_unrun (Err e) stops.Memory h = tt

  pub script_unrun : {W : Type 0} (r : Result W (Refused ScriptKind)) (s : Stop) → IsStop (ScriptStops r) s → IsStop (WhereRun so) s
  script_unrun (Ok workers) (stops.Refused status text) h = absurd h
  script_unrun (Ok workers) stops.Memory h = tt
  script_unrun (Err e) (stops.Refused status text) h = λ ran. absurd (subst HasRun h.0 ran)
  script_unrun (Err e) stops.Memory h = tt

module _ (hears : Call → Type 0) where
  -- ---- of the job that bytes say

  pub job_heard : (origin : Name) (bytes : List ℕ) (zone : Version) (workers : List (List Command)) → zone_of origin (zone_lines bytes) ≡ Ok zone → script_of origin (script_start bytes) (script_lines bytes) ≡ Ok workers
      → AllHeard hears 1 workers → JobHeard hears (job_of origin bytes)
  job_heard origin bytes zone workers z w heard = subst (JobHeard hears) (sym (whole_job origin bytes zone workers z w)) heard

  -- ---- of the list that bytes say

  each_at : (workers number : ℕ) (os : List FedOutcome) (place : ℕ) → EachHeard hears workers number os → place < length os → (worker : ℕ) × (0 < worker) × (worker ≤ workers) × IsHeard hears worker (number + place)
  each_at workers number [] place each lt = absurd (omega (arith, lt))
  each_at workers number (o ∷ os) zero each lt =
      let same : number ≡ number + 0 = omega arith in
      (o.worker, each.0, each.1, subst (λ (n : ℕ). IsHeard hears o.worker n) same each.2)
  each_at workers number (o ∷ os) (suc place) each lt =
      let more = each_at workers (number + 1) os place each.3 (omega (arith, lt)) in
      let same : number + 1 + place ≡ number + suc place = omega arith in
      (more.0, more.1, more.2, subst (λ (n : ℕ). IsHeard hears more.0 n) same more.3)

  pub list_heard : (workers count : ℕ) (os : List FedOutcome) → AllFedHeard hears workers count os → ListHeard hears workers count
  list_heard workers count os heard = λ place lt.
      let less : place < length os = omega (arith, lt, heard.many) in
      let here = each_at workers 1 os place heard.each less in
      let same : 1 + place ≡ place + 1 = omega arith in
      (here.0, here.1, here.2, subst (λ (n : ℕ). IsHeard hears here.0 n) same here.3)

  -- of no commands there is nothing to be told
  pub none_heard : {E : Type 0} (workers : ℕ) (r : Result (Status × Pieces) E) → IfOk r (IsAnswerDue (WhereRun (ListHeard hears workers 0)))
  none_heard workers (Ok answer) = λ ran place lt. absurd (omega (arith, lt))
  none_heard workers (Err e) = tt

  -- by more workers
  pub heard_by_more : (few many count : ℕ) → few ≤ many → ListHeard hears few count → ListHeard hears many count
  heard_by_more few many count le heard = λ place lt. let here = heard place lt in (here.0, here.1, omega (arith, here.2, le), here.3)

  pub fed_job_heard : (workers : ℕ) (origin : Name) (bytes : List ℕ) (zone : Version) (commands : List Command) → zone_of origin (zone_lines bytes) ≡ Ok zone → list_of origin (script_start bytes) (script_lines bytes) ≡ Ok commands
      → ListHeard hears workers (length commands) → FedJobHeard hears workers (fed_job_of origin bytes)
  fed_job_heard workers origin bytes zone commands z w heard = subst (FedJobHeard hears workers) (sym (whole_list origin bytes zone commands z w)) heard

  -- ---- of the input

  pub given_heard : (i : Invocation) (bytes : List ℕ) → input_of i.verb (Some bytes) ≡ Some bytes → HeardInput hears i.verb i.origin bytes → Heard hears (Some i) (Some bytes)
  given_heard i bytes same heard = subst (HeardGiven hears i) (sym same) heard

  pub made_heard : (i : Invocation) (load : Load) (bytes : List ℕ) (left : Option (List ℕ)) → i.verb ≡ Make load → bytes ≡ made_text load → HeardInput hears i.verb i.origin bytes → Heard hears (Some i) left
  made_heard i load bytes left v made heard =
      let given : input_of i.verb left ≡ Some bytes = ap (λ (w : Verb). input_of w left) v ∙ ap (λ (l : List ℕ). Some l) (sym made) in
      subst (HeardGiven hears i) (sym given) heard
