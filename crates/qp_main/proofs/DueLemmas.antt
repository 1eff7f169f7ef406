-- What is due for an input.
use Rattle.std.proofs.Common.{◌≡◌, ◌∙◌, ℕ, ◌+◌, Bool, true, false, cond, eqb, leb, List, [], length, Option, Some, None, Result, Ok, Err, refl, sym, ap, subst, arith, codes, length-append, append-nil, ◌++◌, ◌<◌, ◌≤◌}
use Rattle.std.proofs.lemmas.Bool.{le-leb, lt-leb}
use Rattle.std.proofs.lemmas.Bool.Decides.{nat_tests}
use Rattle.std.specs.Fmt.{decimal}
use Rattle.std.specs.Io.KnownBytes.{Consumes, IsAtEnd}
use Rattle.outer_io.specs.Bytes.{Held, GrowsByFront}
use Rattle.outer_io.proofs.GrowsLemmas.{Grows-nil}
use Rattle.zone_model.specs.Dumps.{dump}
use Rattle.zone_model.specs.declared.Style.{Style}
use Rattle.command_line.specs.Invocations.{Invocation, Verb, Run, Feed, Check, Make, Dump, Size, Zones, Diff, Live}
use Rattle.job_model.specs.Loads.{Load, made_origin, made_text}
use Rattle.zone_model.specs.Names.{Name}
use Rattle.zone_model.specs.Versions.{Version}
use Rattle.zone_model.specs.Refusals.{Refused, ◌>>=◌}
use Rattle.zone_model.specs.MasterFile.{zone_of}
use Rattle.job_model.specs.Commands.{Command, FedJob, Job}
use Rattle.job_model.specs.Jobs.{JobRefusal, ZoneRefused, ScriptRefused, zone_lines, script_lines, script_start, script_of, list_of, zone_refused, script_refused, job_of_lines, job_of, fed_job_of_lines, fed_job_of}
use Rattle.job_model.specs.Outcomes.{some_refused}
use Rattle.job_model.specs.Feeds.{some_fed_refused}
use Rattle.zone_model.specs.declared.ZoneKind.{ZoneKind}
use Rattle.job_model.specs.declared.ScriptKind.{ScriptKind}
use Rattle.job_script.specs.Scripts.{Says}
use Rattle.job_script.specs.declared.refusal.JobRefusal.{JobRefusal as ScriptStop}
use Rattle.job_script.specs.declared.refusal.JobRefusal.TheVariants as stop
use Rattle.zone_model.specs.MasterFile.{Zone}
use Rattle.zones_model.specs.Commands.{Job as ZonesJob}
use Rattle.zones_model.specs.Reports as several
use Rattle.zones_script.specs.Jobs.{ZonesRefusal, zones_job_of}
use Rattle.zones_script.specs.Jobs as of_zones
use Rattle.zone_text.specs.Views.{Reads}
use Rattle.zone_text.specs.declared.refusal.ZoneRefusal.{ZoneRefusal}
use Rattle.job_model.specs.Sizes.{cell_count}
use Rattle.qp_multi.specs.Openings.{room_in}
use Rattle.qp_main.specs.Fits.{fits, no_room_text, opened_text}
use Rattle.zone_diff.specs.Differences.{difference}
use Rattle.zone_diff.specs.declared.DiffStyle.{DiffStyle}
use Rattle.zone_diff.specs.declared.Serial.{Serial}
use Rattle.qp_main.specs.Saids.{second_said, zone_said}
use Rattle.qp_main.specs.Due.{Differs, Due, DueBytes, DueGiven, DueInput, Answers, FedAnswers, Checks, CutShort, Dumps, EndsLoad, IfAllFit, IfFits, Ends, JobRefuses, Refuses, RefusesScript, Reported, FedReported, Sized, Sizes, IsWritten, MayBeShort, Written, ZonesAnswers, ZonesReported, all_fit, input_of, is_streamed, streams, zone_kind_text, refusal_text}
use Rattle.qp_main.specs.Stops.{IsStop, ScriptStopsFor, ZoneStopsFor}
use Rattle.qp_main.specs.declared.refusing.Stop.{Stop}
use Rattle.qp_main.specs.declared.refusing.Stop.TheVariants as stops
use Rattle.qp_main.specs.declared.run_report.Telling.{Telling}
use Rattle.qp_main.specs.declared.run_report.Telling.TheVariants.{Report, Summary}
use Rattle.qp_main.specs.declared.status.Status.{Status}
use Rattle.qp_main.specs.declared.status.Status.TheVariants as status

-- what was read is due as the source's bytes are
pub given_due : (i : Invocation) (left : Option (List ℕ)) (s : Status) (text : List ℕ) → input_of i.verb left ≡ left → DueGiven i left s text → Due (Some i) left s text
given_due i left s text e h = subst (λ (o : Option (List ℕ)). DueGiven i o s text) (sym e) h

pub too_long : (invocation : Invocation) (before now : Option (List ℕ)) (bytes : List ℕ) → Consumes before now bytes → length bytes ≡ 16777217 → DueGiven invocation before status.TooLong (codes "input over 16777216 bytes\n")
too_long invocation None now bytes c e = tt
too_long invocation (Some all) None bytes c e = absurd c
too_long invocation (Some all) (Some rest) bytes c e =
    let long : leb (length all) 16777216 ≡ false = (let n : 16777217 + length rest ≡ length all = omega (arith, ap (λ (l : List ℕ). length l) c, length-append bytes rest, e) in grind (arith, nat_tests)) in
    subst (λ (b : Bool). DueBytes invocation all b status.TooLong (codes "input over 16777216 bytes\n")) (sym long) (refl, refl)

-- an input that was read whole
read_due : (i : Invocation) (before now : Option (List ℕ)) (bytes : List ℕ) (s : Status) (text : List ℕ) → Consumes before now bytes → IsAtEnd now → length bytes ≤ 16777216 → DueInput i.verb i.chunks i.origin bytes s text → DueGiven i before s text
read_due i None now bytes s text c e le h = tt
read_due i (Some all) None bytes s text c e le h = absurd c
read_due i (Some all) (Some rest) bytes s text c e le h =
    let whole : all ≡ bytes = c ∙ ap (λ (l : List ℕ). bytes ++ l) e ∙ append-nil bytes in
    subst (λ (l : List ℕ). DueBytes i l (leb (length l) 16777216) s text) (sym whole) (subst (λ (b : Bool). DueBytes i bytes b s text) (sym (le-leb (length bytes) 16777216 le)) h)

-- so that is due for the words
pub source_due : (i : Invocation) (before now : Option (List ℕ)) (bytes : List ℕ) → input_of i.verb before ≡ before → Consumes before now bytes → IsAtEnd now → length bytes ≤ 16777216 → (s : Status) (text : List ℕ) → DueInput i.verb i.chunks i.origin bytes s text → Due (Some i) before s text
source_due i before now bytes same c e le s text h = given_due i before s text same (read_due i before now bytes s text c e le h)

-- an input that was made
pub made_due : (i : Invocation) (load : Load) (bytes : List ℕ) (s : Status) (text : List ℕ) (left : Option (List ℕ)) → i.verb ≡ Make load → bytes ≡ made_text load → length bytes ≤ 16777216 → DueInput i.verb i.chunks i.origin bytes s text → Due (Some i) left s text
made_due i load bytes s text left v made le h =
    let given : input_of i.verb left ≡ Some bytes = ap (λ (w : Verb). input_of w left) v ∙ ap (λ (l : List ℕ). Some l) (sym made) in
    subst (λ (o : Option (List ℕ)). DueGiven i o s text) (sym given) (subst (λ (b : Bool). DueBytes i bytes b s text) (sym (le-leb (length bytes) 16777216 le)) h)

-- ---- what was written of what is due, where that is due for more

pub written_as : (P Q : Status → List ℕ → Type 0) (before now : Held) (s : Status) → ((s : Status) (text : List ℕ) → P s text → Q s text) → Written P before now s → Written Q before now s
written_as P Q before now s f w = record { text = w.text; is_due = f s w.text w.is_due; grew = w.grew }

pub cut_as : (P Q : Status → List ℕ → Type 0) (before now : Held) → ((s : Status) (text : List ℕ) → P s text → Q s text) → CutShort P before now → CutShort Q before now
cut_as P Q before now f c = record { status = c.status; text = c.text; is_due = f c.status c.text c.is_due; grew = c.grew }

-- nothing was written yet of what is due
pub nothing_yet : (P : Status → List ℕ → Type 0) (held : Held) → (s : Status) × (text : List ℕ) × P s text → CutShort P held held
nothing_yet P held due = record { status = due.0; text = due.1; is_due = due.2; grew = (0, omega arith, Grows-nil held) }

-- ---- zones that fit

pub fitting : (chunks : ℕ) (zone : Version) (F : Status → List ℕ → Type 0) (s : Status) (text : List ℕ) → fits chunks zone ≡ true → F s text → IfFits (fits chunks zone) chunks zone F s text
fitting chunks zone F s text e h = subst (λ (b : Bool). IfFits b chunks zone F s text) (sym e) h

-- ---- dumps

-- something is due for each input of a dump

some_fits : (b : Bool) (chunks : ℕ) (zone : Version) (F : Status → List ℕ → Type 0) → (s : Status) × (text : List ℕ) × F s text → (s : Status) × (text : List ℕ) × IfFits b chunks zone F s text
some_fits true chunks zone F due = due
some_fits false chunks zone F due = (status.DoesNotFit, no_room_text chunks zone, (refl, refl))

some_dump : (chunks : ℕ) (style : Style) (origin : Name) (r : Result Version (Refused ZoneKind)) → (s : Status) × (text : List ℕ) × Dumps chunks style origin r s text
some_dump chunks style origin (Ok zone) = some_fits (fits chunks zone) chunks zone (Ends status.Done (dump style origin zone)) (status.Done, dump style origin zone, (refl, refl))
some_dump chunks style origin (Err e) = (status.ZoneRefused, refusal_text (codes "zone") e.line (zone_kind_text e.kind), (refl, refl))

-- nothing was written yet of a dump
pub none_dumped : (chunks : ℕ) (style : Style) (origin : Name) (r : Result Version (Refused ZoneKind)) (held : Held) → CutShort (Dumps chunks style origin r) held held
none_dumped chunks style origin r held = nothing_yet (Dumps chunks style origin r) held (some_dump chunks style origin r)

some_input : (verb : Verb) (chunks : ℕ) (origin : Name) (bytes : List ℕ) → is_streamed verb ≡ true → (s : Status) × (text : List ℕ) × DueInput verb chunks origin bytes s text
some_input Run chunks origin bytes e = absurd cc
some_input (Feed workers) chunks origin bytes e = absurd cc
some_input Size chunks origin bytes e = absurd cc
some_input Zones chunks origin bytes e = absurd cc
some_input (Diff style serial) chunks origin bytes e = absurd cc
some_input Check chunks origin bytes e = absurd cc
some_input (Make load) chunks origin bytes e = absurd cc
some_input (Live asked) chunks origin bytes e = absurd cc
some_input (Dump style) chunks origin bytes e = some_dump chunks style origin (zone_of origin (zone_lines bytes))

some_bytes : (i : Invocation) (bytes : List ℕ) (b : Bool) → is_streamed i.verb ≡ true → (s : Status) × (text : List ℕ) × DueBytes i bytes b s text
some_bytes i bytes true e = some_input i.verb i.chunks i.origin bytes e
some_bytes i bytes false e = (status.TooLong, codes "input over 16777216 bytes\n", (refl, refl))

some_given : (i : Invocation) (left : Option (List ℕ)) → is_streamed i.verb ≡ true → (s : Status) × (text : List ℕ) × DueGiven i left s text
some_given i None e = (status.Done, [], tt)
some_given i (Some bytes) e = some_bytes i bytes (leb (length bytes) 16777216) e

some_due : (i : Invocation) (left : Option (List ℕ)) → is_streamed i.verb ≡ true → (s : Status) × (text : List ℕ) × Due (Some i) left s text
some_due i left e = some_given i (input_of i.verb left) e

pub some_words : (o : Option Invocation) (left : Option (List ℕ)) → streams o ≡ true → (s : Status) × (text : List ℕ) × Due o left s text
some_words None left e = absurd cc
some_words (Some i) left e = some_due i left e

-- a zone that fits is due whole
pub whole_dump : (chunks : ℕ) (style : Style) (origin : Name) (zone : Version) → cell_count zone ≤ room_in chunks → Dumps chunks style origin (Ok zone) status.Done (dump style origin zone)
whole_dump chunks style origin zone le = fitting chunks zone (Ends status.Done (dump style origin zone)) status.Done (dump style origin zone) (le-leb (cell_count zone) (room_in chunks) le) (refl, refl)

pub front_dump : (chunks : ℕ) (style : Style) (origin of : Name) (zone : Version) (before now : Held) (counted limit : ℕ) → counted ≡ cell_count zone → limit ≡ room_in chunks → counted ≤ limit → of ≡ origin
    → GrowsByFront before now (dump style of zone) → CutShort (Dumps chunks style origin (Ok zone)) before now
front_dump chunks style origin of zone before now counted limit is_count is_limit le same front = record {
  status = status.Done;
  text = dump style origin zone;
  is_due = whole_dump chunks style origin zone (omega (arith, is_count, is_limit, le));
  grew = subst (λ (o : Name). GrowsByFront before now (dump style o zone)) same front;
}

-- of one that doesn't fit both numbers are
pub refused_dump : (chunks : ℕ) (style : Style) (origin : Name) (zone : Version) (counted limit : ℕ) (text : List ℕ) → counted ≡ cell_count zone → limit ≡ room_in chunks → limit < counted
    → text ≡ codes "zone does not fit: " ++ decimal counted ++ codes " cells over " ++ decimal limit ++ codes "\n" → Dumps chunks style origin (Ok zone) status.DoesNotFit text
refused_dump chunks style origin zone counted limit text is_count is_limit over e =
    let said : text ≡ no_room_text chunks zone =
    e ∙ ap (λ (n : ℕ). codes "zone does not fit: " ++ decimal n ++ codes " cells over " ++ decimal limit ++ codes "\n") is_count
    ∙ ap (λ (n : ℕ). codes "zone does not fit: " ++ decimal (cell_count zone) ++ codes " cells over " ++ decimal n ++ codes "\n") is_limit in
    let more : room_in chunks < cell_count zone = omega (arith, is_count, is_limit, over) in
    subst (λ (b : Bool). IfFits b chunks zone (Ends status.Done (dump style origin zone)) status.DoesNotFit text) (sym (lt-leb (cell_count zone) (room_in chunks) more)) (refl, said)

-- ---- jobs

-- what a reader of scripts said when it refused one
pub script_said : {R A : Type 0} (view : R → A) (e : ScriptStop) (line : ℕ) (kind : ScriptKind) (wanted : Result A (Refused ScriptKind)) → e ≡ stop.Refused line kind → Says (Err e) view wanted → wanted ≡ Err (record { line = line; kind = kind })
script_said view e line kind wanted is says = subst (λ (x : ScriptStop). Says (Err x) view wanted) is says

pub whole_job : (origin : Name) (bytes : List ℕ) (zone : Version) (workers : List (List Command)) → zone_of origin (zone_lines bytes) ≡ Ok zone → script_of origin (script_start bytes) (script_lines bytes) ≡ Ok workers
    → job_of origin bytes ≡ Ok (record { origin = origin; zone = zone; workers = workers })
unfolding job_of_lines
whole_job origin bytes zone workers z w =
    ap (λ r. zone_refused r >>= (λ version. script_refused (script_of origin (script_start bytes) (script_lines bytes)) >>= (λ ws. Ok (record { origin = origin; zone = version; workers = ws })))) z
    ∙ ap (λ r. script_refused r >>= (λ ws. Ok (record { origin = origin; zone = zone; workers = ws }))) w

answers_as : (telling : Telling) (chunks : ℕ) (q r : Result Job JobRefusal) (s : Status) (text : List ℕ) → q ≡ r → Answers telling chunks r s text → Answers telling chunks q s text
answers_as telling chunks q r s text e h = subst (λ (x : Result Job JobRefusal). Answers telling chunks x s text) (sym e) h

-- the answers of a job that is read
pub job_answers : (telling : Telling) (chunks : ℕ) (origin : Name) (bytes : List ℕ) (zone : Version) (workers : List (List Command)) → zone_of origin (zone_lines bytes) ≡ Ok zone → script_of origin (script_start bytes) (script_lines bytes) ≡ Ok workers
    → (s : Status) (text : List ℕ) → Answers telling chunks (Ok (record { origin = origin; zone = zone; workers = workers })) s text → Answers telling chunks (job_of origin bytes) s text
job_answers telling chunks origin bytes zone workers z w s text h = answers_as telling chunks (job_of origin bytes) (Ok (record { origin = origin; zone = zone; workers = workers })) s text (whole_job origin bytes zone workers z w) h

-- the same of what a job needs

sizes_as : (q r : Result Job JobRefusal) (s : Status) (text : List ℕ) → q ≡ r → Sizes r s text → Sizes q s text
sizes_as q r s text e h = subst (λ (x : Result Job JobRefusal). Sizes x s text) (sym e) h

pub job_sizes : (origin : Name) (bytes : List ℕ) (zone : Version) (workers : List (List Command)) → zone_of origin (zone_lines bytes) ≡ Ok zone → script_of origin (script_start bytes) (script_lines bytes) ≡ Ok workers
    → (s : Status) (text : List ℕ) → Sized (record { origin = origin; zone = zone; workers = workers }) s text → Sizes (job_of origin bytes) s text
job_sizes origin bytes zone workers z w s text h = sizes_as (job_of origin bytes) (Ok (record { origin = origin; zone = zone; workers = workers })) s text (whole_job origin bytes zone workers z w) h

-- ---- a script that is refused, behind the zone

-- what was refused of a zone is told, whatever is refused of the script
pub zone_told_first : (origin : Name) (bytes : List ℕ) (lines : List (List ℕ)) (r : ZoneRefusal) (e : Refused ScriptKind) (s : Status) (text : List ℕ) → lines ≡ zone_lines bytes → Reads {R = Zone} (Err r) (λ z. z.pairs) (zone_of origin lines) → Refuses r s text
    → RefusesScript (zone_of origin (zone_lines bytes)) e s text
zone_told_first origin bytes lines r e s text same z h = subst (λ (x : Result Version (Refused ZoneKind)). RefusesScript x e s text) (sym (ap (zone_of origin) (sym same) ∙ z h.0)) h.1

pub script_told : (origin : Name) (bytes : List ℕ) (zone : Version) (e : Refused ScriptKind) (s : Status) (text : List ℕ) → zone_of origin (zone_lines bytes) ≡ Ok zone → RefusesScript (Ok zone) e s text → RefusesScript (zone_of origin (zone_lines bytes)) e s text
script_told origin bytes zone e s text z h = subst (λ (x : Result Version (Refused ZoneKind)). RefusesScript x e s text) (sym z) h

-- ---- what stops an input

pub stop_as : (P Q : Status → List ℕ → Type 0) (s : Stop) → ((status : Status) (text : List ℕ) → P status text → Q status text) → IsStop P s → IsStop Q s
stop_as P Q (stops.Refused status text) f h = f status text h
stop_as P Q stops.Memory f h = tt

-- a zone that its reader refused, or that memory was wanting for
pub zone_stopped : (due : Status → List ℕ → Type 0) (r : ZoneRefusal) (s : Stop) → ((status : Status) (text : List ℕ) → Refuses r status text → due status text) → ZoneStopsFor r s → IsStop due s
zone_stopped due r (stops.Refused status text) f h = f status text h
zone_stopped due r stops.Memory f h = tt

-- a script that was refused, behind what was read of its zone
pub script_stopped : (origin : Name) (bytes : List ℕ) (lines : List (List ℕ)) (r : Result Zone ZoneRefusal) (e : Refused ScriptKind) (s : Stop) → lines ≡ zone_lines bytes → Reads r (λ z. z.pairs) (zone_of origin lines) → ScriptStopsFor r e s → IsStop (RefusesScript (zone_of origin (zone_lines bytes)) e) s
script_stopped origin bytes lines (Ok zone) e (stops.Refused status text) same z h = script_told origin bytes zone.pairs e status text (ap (zone_of origin) (sym same) ∙ z) h
script_stopped origin bytes lines (Ok zone) e stops.Memory same z h = absurd h
script_stopped origin bytes lines (Err r) e s same z h = zone_stopped (RefusesScript (zone_of origin (zone_lines bytes)) e) r s (λ status text k. zone_told_first origin bytes lines r e status text same z k) h

-- ---- one list of commands

pub whole_list : (origin : Name) (bytes : List ℕ) (zone : Version) (commands : List Command) → zone_of origin (zone_lines bytes) ≡ Ok zone → list_of origin (script_start bytes) (script_lines bytes) ≡ Ok commands
    → fed_job_of origin bytes ≡ Ok (record { origin = origin; zone = zone; commands = commands })
unfolding fed_job_of_lines
whole_list origin bytes zone commands z w =
    ap (λ r. zone_refused r >>= (λ version. script_refused (list_of origin (script_start bytes) (script_lines bytes)) >>= (λ cs. Ok (record { origin = origin; zone = version; commands = cs })))) z
    ∙ ap (λ r. script_refused r >>= (λ cs. Ok (record { origin = origin; zone = zone; commands = cs }))) w

fed_as : (workers chunks : ℕ) (q r : Result FedJob JobRefusal) (s : Status) (text : List ℕ) → q ≡ r → FedAnswers workers chunks r s text → FedAnswers workers chunks q s text
fed_as workers chunks q r s text e h = subst (λ (x : Result FedJob JobRefusal). FedAnswers workers chunks x s text) (sym e) h

-- the answers of a list that is read
pub list_answers : (workers chunks : ℕ) (origin : Name) (bytes : List ℕ) (zone : Version) (commands : List Command) → zone_of origin (zone_lines bytes) ≡ Ok zone → list_of origin (script_start bytes) (script_lines bytes) ≡ Ok commands
    → (s : Status) (text : List ℕ) → FedAnswers workers chunks (Ok (record { origin = origin; zone = zone; commands = commands })) s text → FedAnswers workers chunks (fed_job_of origin bytes) s text
list_answers workers chunks origin bytes zone commands z w s text h = fed_as workers chunks (fed_job_of origin bytes) (Ok (record { origin = origin; zone = zone; commands = commands })) s text (whole_list origin bytes zone commands z w) h

-- ---- what is due for an input that was read

-- the status answers an input
abbrev pub IsAnswer : Status → Type 0
IsAnswer status.Done = Unit {0}
IsAnswer status.SomeRefused = Unit {0}
IsAnswer status.ZoneRefused = Unit {0}
IsAnswer status.ScriptRefused = Unit {0}
IsAnswer status.DoesNotFit = Unit {0}
IsAnswer status.Differ = Unit {0}
IsAnswer _ = ⊥

answer_as : (s t : Status) → s ≡ t → IsAnswer t → IsAnswer s
answer_as s t e w = subst IsAnswer (sym e) w

if_fits_answers : (b : Bool) (chunks : ℕ) (zone : Version) (F : Status → List ℕ → Type 0) (s : Status) (text : List ℕ) → (F s text → IsAnswer s) → IfFits b chunks zone F s text → IsAnswer s
if_fits_answers true chunks zone F s text f h = f h
if_fits_answers false chunks zone F s text f h = answer_as s status.DoesNotFit h.0 tt

reported_answers : (telling : Telling) (chunks : ℕ) (job : Job) (s : Status) (text : List ℕ) → Reported telling chunks job s text → IsAnswer s
reported_answers telling chunks job s text h = answer_as s (cond (some_refused h.workers) status.SomeRefused status.Done) h.ended (by_refused (some_refused h.workers))
  where
    by_refused : (b : Bool) → IsAnswer (cond b status.SomeRefused status.Done)
    by_refused true = tt
    by_refused false = tt

refused_answer : (e : JobRefusal) (s : Status) (text : List ℕ) → JobRefuses e s text → IsAnswer s
refused_answer (ZoneRefused e) s text h = answer_as s status.ZoneRefused h.0 tt
refused_answer (ScriptRefused e) s text h = answer_as s status.ScriptRefused h.0 tt

fed_reported_answers : (workers chunks : ℕ) (job : FedJob) (s : Status) (text : List ℕ) → FedReported workers chunks job s text → IsAnswer s
fed_reported_answers workers chunks job s text h = answer_as s (cond (some_fed_refused h.fed) status.SomeRefused status.Done) h.ended (by_refused (some_fed_refused h.fed))
  where
    by_refused : (b : Bool) → IsAnswer (cond b status.SomeRefused status.Done)
    by_refused true = tt
    by_refused false = tt

fed_answer : (workers chunks : ℕ) (r : Result FedJob JobRefusal) (s : Status) (text : List ℕ) → FedAnswers workers chunks r s text → IsAnswer s
fed_answer workers chunks (Ok job) s text h = if_fits_answers (fits chunks job.zone) chunks job.zone (FedReported workers chunks job) s text (fed_reported_answers workers chunks job s text) h
fed_answer workers chunks (Err e) s text h = refused_answer e s text h

job_answer : (telling : Telling) (chunks : ℕ) (r : Result Job JobRefusal) (s : Status) (text : List ℕ) → Answers telling chunks r s text → IsAnswer s
job_answer telling chunks (Ok job) s text h = if_fits_answers (fits chunks job.zone) chunks job.zone (Reported telling chunks job) s text (reported_answers telling chunks job s text) h
job_answer telling chunks (Err e) s text h = refused_answer e s text h

sizes_answer : (r : Result Job JobRefusal) (s : Status) (text : List ℕ) → Sizes r s text → IsAnswer s
sizes_answer (Ok job) s text h = answer_as s status.Done h.ended tt
sizes_answer (Err e) s text h = refused_answer e s text h

all_fit_answers : (b : Bool) (chunks : ℕ) (zones : List Zone) (F : Status → List ℕ → Type 0) (s : Status) (text : List ℕ) → (F s text → IsAnswer s) → IfAllFit b chunks zones F s text → IsAnswer s
all_fit_answers true chunks zones F s text f h = f h
all_fit_answers false chunks zones F s text f h = answer_as s status.DoesNotFit h.told.0 tt

zones_reported_answers : (chunks : ℕ) (job : ZonesJob) (s : Status) (text : List ℕ) → ZonesReported chunks job s text → IsAnswer s
zones_reported_answers chunks job s text h = answer_as s (cond (several.some_refused h.workers) status.SomeRefused status.Done) h.ended (by_refused (several.some_refused h.workers))
  where
    by_refused : (b : Bool) → IsAnswer (cond b status.SomeRefused status.Done)
    by_refused true = tt
    by_refused false = tt

zones_answer : (chunks : ℕ) (r : Result ZonesJob ZonesRefusal) (s : Status) (text : List ℕ) → ZonesAnswers chunks r s text → IsAnswer s
zones_answer chunks (Ok job) s text h = all_fit_answers (all_fit chunks job.zones) chunks job.zones (ZonesReported chunks job) s text (zones_reported_answers chunks job s text) h
zones_answer chunks (Err (of_zones.ListRefused e)) s text h = answer_as s status.ZoneRefused h.0 tt
zones_answer chunks (Err (of_zones.ScriptRefused e)) s text h = answer_as s status.ScriptRefused h.0 tt

check_answer : (chunks : ℕ) (r : Result Version (Refused ZoneKind)) (s : Status) (text : List ℕ) → Checks chunks r s text → IsAnswer s
check_answer chunks (Ok zone) s text h = if_fits_answers (fits chunks zone) chunks zone (Ends status.Done (opened_text zone)) s text (λ k. answer_as s status.Done k.0 tt) h
check_answer chunks (Err e) s text h = answer_as s status.ZoneRefused h.0 tt

dump_answer : (chunks : ℕ) (style : Style) (origin : Name) (r : Result Version (Refused ZoneKind)) (s : Status) (text : List ℕ) → Dumps chunks style origin r s text → IsAnswer s
dump_answer chunks style origin (Ok zone) s text h = if_fits_answers (fits chunks zone) chunks zone (Ends status.Done (dump style origin zone)) s text (λ k. answer_as s status.Done k.0 tt) h
dump_answer chunks style origin (Err e) s text h = answer_as s status.ZoneRefused h.0 tt

differ_answer : (style : DiffStyle) (serial : Serial) (origin : Name) (first second : Result Version (Refused ZoneKind)) (s : Status) (text : List ℕ) → Differs style serial origin first second s text → IsAnswer s
differ_answer style serial origin (Err e) second s text h = answer_as s status.ZoneRefused h.0 tt
differ_answer style serial origin (Ok before) (Err e) s text h = answer_as s status.ZoneRefused h.0 tt
differ_answer style serial origin (Ok before) (Ok after) s text h = answer_as s (cond (eqb (length (difference serial before after)) 0) status.Done status.Differ) h.ended (by_same (eqb (length (difference serial before after)) 0))
  where
    by_same : (b : Bool) → IsAnswer (cond b status.Done status.Differ)
    by_same true = tt
    by_same false = tt

pub due_answer : (verb : Verb) (chunks : ℕ) (origin : Name) (bytes : List ℕ) (s : Status) (text : List ℕ) → DueInput verb chunks origin bytes s text → IsAnswer s
due_answer Run chunks origin bytes s text h = job_answer Report chunks (job_of origin bytes) s text h
due_answer (Feed workers) chunks origin bytes s text h = fed_answer workers chunks (fed_job_of origin bytes) s text h
due_answer (Make load) chunks origin bytes s text h = job_answer Summary chunks (job_of origin bytes) s text h
due_answer Size chunks origin bytes s text h = sizes_answer (job_of origin bytes) s text h
due_answer Zones chunks origin bytes s text h = zones_answer chunks (zones_job_of bytes) s text h
due_answer (Diff style serial) chunks origin bytes s text h = differ_answer style serial origin (zone_said origin bytes) (second_said origin bytes) s text h
due_answer Check chunks origin bytes s text h = check_answer chunks (zone_of origin (zone_lines bytes)) s text h
due_answer (Dump style) chunks origin bytes s text h = dump_answer chunks style origin (zone_of origin (zone_lines bytes)) s text h
due_answer (Live asked) chunks origin bytes s text h = absurd h

pub answer_written : (s : Status) → IsAnswer s → IsWritten s
answer_written status.Done a = tt
answer_written status.SomeRefused a = tt
answer_written status.ZoneRefused a = tt
answer_written status.ScriptRefused a = tt
answer_written status.DoesNotFit a = tt
answer_written status.Differ a = tt
answer_written status.WordsRefused a = tt
answer_written status.TooLong a = tt
answer_written status.SourceFault a = a
answer_written status.SinkFault a = a
answer_written status.NoMemory a = a

-- ---- what is due for a load

load_fits : (b : Bool) (chunks : ℕ) (job : Job) (s : Status) (text : List ℕ) → IfFits b chunks job.zone (Reported Summary chunks job) s text → EndsLoad s
load_fits true chunks job s text h = subst EndsLoad (sym h.ended) (by_refused (some_refused h.workers))
  where
    by_refused : (b : Bool) → EndsLoad (cond b status.SomeRefused status.Done)
    by_refused true = tt
    by_refused false = tt
load_fits false chunks job s text h = subst EndsLoad (sym h.0) tt

-- its text says a job, so neither its zone nor its script is refused
pub load_answer : (load : Load) (verb : Verb) (chunks : ℕ) (origin : Name) (bytes : List ℕ) (job : Job) (s : Status) (text : List ℕ) → verb ≡ Make load → origin ≡ made_origin → job_of made_origin bytes ≡ Ok job → DueInput verb chunks origin bytes s text → EndsLoad s
load_answer load verb chunks origin bytes job s text v o says h =
    let answers : Answers Summary chunks (job_of origin bytes) s text = subst (λ (w : Verb). DueInput w chunks origin bytes s text) v h in
    load_fits (fits chunks job.zone) chunks job s text (subst (λ (r : Result Job JobRefusal). Answers Summary chunks r s text) (ap (λ (n : Name). job_of n bytes) o ∙ says) answers)

pub load_ended : (s : Status) → (IsWritten s → EndsLoad s) → (s ≡ status.SourceFault → ⊥) → EndsLoad s
load_ended status.Done f n = tt
load_ended status.SomeRefused f n = tt
load_ended status.DoesNotFit f n = tt
load_ended status.SinkFault f n = tt
load_ended status.NoMemory f n = tt
load_ended status.SourceFault f n = n refl
load_ended status.WordsRefused f n = f tt
load_ended status.ZoneRefused f n = f tt
load_ended status.ScriptRefused f n = f tt
load_ended status.TooLong f n = f tt
load_ended status.Differ f n = f tt

-- ---- statuses

-- what was written whole of an input has the status of an answer
pub written_answers : (verb : Verb) (chunks : ℕ) (origin : Name) (bytes : List ℕ) (before now : Held) (s : Status) → (IsWritten s → Written (DueInput verb chunks origin bytes) before now s) → IsWritten s → IsAnswer s
written_answers verb chunks origin bytes before now s f w = let d = f w in due_answer verb chunks origin bytes s d.text d.is_due

-- what may be short has a sink's fault, unless memory ran out
pub short_is : (streamed : Bool) (s : Status) → MayBeShort streamed s → (s ≡ status.NoMemory → ⊥) → s ≡ status.SinkFault
short_is streamed status.SinkFault short n = refl
short_is streamed status.NoMemory short n = absurd (n refl)
short_is streamed status.SourceFault short n = absurd short
short_is streamed status.Done short n = absurd short
short_is streamed status.SomeRefused short n = absurd short
short_is streamed status.WordsRefused short n = absurd short
short_is streamed status.ZoneRefused short n = absurd short
short_is streamed status.ScriptRefused short n = absurd short
short_is streamed status.TooLong short n = absurd short
short_is streamed status.DoesNotFit short n = absurd short
short_is streamed status.Differ short n = absurd short
