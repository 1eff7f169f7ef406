-- What is due for an input of several zones.
use Rattle.std.proofs.Common.{◌≡◌, ◌∙◌, ◌≤◌, ℕ, ◌+◌, Bool, true, false, cond, List, [], ◌∷◌, arith, length, Result, Ok, Err, ap, refl, sym, subst}
use Rattle.std.proofs.lemmas.List.{length-map}
use Rattle.zone_model.specs.Lines.{lines_of}
use Rattle.zone_model.specs.MasterFile.{Zone}
use Rattle.zone_model.specs.Names.{Name, IsName}
use Rattle.zone_model.specs.Refusals.{Refused, ◌>>=◌}
use Rattle.std.specs.List.{AllByRecursion, list_any}
use Rattle.job_model.specs.Jobs.{is_cut, zone_lines, script_lines, script_start}
use Rattle.job_model.specs.declared.ScriptKind.{ScriptKind}
use Rattle.zone_list.specs.Lists.{zones_of}
use Rattle.zone_model.specs.declared.ZoneKind.{ZoneKind}
use Rattle.zone_text.specs.Views.{Reads}
use Rattle.zone_text.specs.declared.refusal.ZoneRefusal.{ZoneRefusal}
use Rattle.zones_model.specs.Commands.{Command, Job, origins_of}
use Rattle.zones_script.specs.Jobs.{ZonesRefusal, ListRefused, ScriptRefused, list_refused, script_refused, zones_job_of_lines, zones_job_of}
use Rattle.zones_script.specs.Scripts.{script_of}
use Rattle.qp_main.specs.Due.{ZonesAnswers}
use Rattle.qp_main.specs.Saids.{IsRead}
use Rattle.job_commands.specs.Calls.{Call}
use Rattle.zones_threads.specs.Calls.{AllHeard}
use Rattle.zones_threads.specs.Sites.{IsSaid}
use Rattle.qp_main.specs.Heard.{ZonesJobHeard}
use Rattle.qp_main.specs.Stops.{IsStop, ListStops, ScriptStops, ZoneStopsFor}
use Rattle.qp_main.specs.declared.refusing.Stop.{Stop}
use Rattle.qp_main.specs.declared.refusing.Stop.TheVariants as stops
use Rattle.qp_main.specs.declared.status.Status.{Status}
use Rattle.qp_main.proofs.DueLemmas.{stop_as}

-- what bytes say, by what their parts say

abbrev over : List ℕ → List Zone → Result Job ZonesRefusal
over bytes zones = script_refused (script_of (origins_of zones) (script_start bytes) (script_lines bytes)) >>= (λ ws. Ok (record { zones = zones; workers = ws }))

by_zones : (bytes : List ℕ) (r : Result (List Zone) (Refused ZoneKind)) → zones_of (zone_lines bytes) ≡ r → zones_job_of bytes ≡ (list_refused r >>= over bytes)
unfolding zones_job_of_lines
by_zones bytes r z = ap (λ x. list_refused x >>= over bytes) z

by_script : (bytes : List ℕ) (zones : List Zone) (r : Result (List (List Command)) (Refused ScriptKind)) → zones_of (zone_lines bytes) ≡ Ok zones → script_of (origins_of zones) (script_start bytes) (script_lines bytes) ≡ r
    → zones_job_of bytes ≡ (script_refused r >>= (λ ws. Ok (record { zones = zones; workers = ws })))
by_script bytes zones r z w = by_zones bytes (Ok zones) z ∙ ap (λ x. script_refused x >>= (λ ws. Ok (record { zones = zones; workers = ws }))) w

answers_as : (chunks : ℕ) (q r : Result Job ZonesRefusal) (s : Status) (text : List ℕ) → q ≡ r → ZonesAnswers chunks r s text → ZonesAnswers chunks q s text
answers_as chunks q r s text e h = subst (λ (x : Result Job ZonesRefusal). ZonesAnswers chunks x s text) (sym e) h

-- the answers of a job that is read
pub zones_answers : (chunks : ℕ) (bytes : List ℕ) (zones : List Zone) (workers : List (List Command)) → zones_of (zone_lines bytes) ≡ Ok zones → script_of (origins_of zones) (script_start bytes) (script_lines bytes) ≡ Ok workers
    → (s : Status) (text : List ℕ) → ZonesAnswers chunks (Ok (record { zones = zones; workers = workers })) s text → ZonesAnswers chunks (zones_job_of bytes) s text
zones_answers chunks bytes zones workers z w s text h = answers_as chunks (zones_job_of bytes) (Ok (record { zones = zones; workers = workers })) s text (by_script bytes zones (Ok workers) z w) h

-- the gate was told of its commands
pub zones_heard : (hears : Call → Type 0) (bytes : List ℕ) (zones : List Zone) (workers : List (List Command)) → zones_of (zone_lines bytes) ≡ Ok zones → script_of (origins_of zones) (script_start bytes) (script_lines bytes) ≡ Ok workers
    → AllHeard hears 1 workers → ZonesJobHeard hears (zones_job_of bytes)
zones_heard hears bytes zones workers z w heard = subst (ZonesJobHeard hears) (sym (by_script bytes zones (Ok workers) z w)) heard

-- a script that is refused
pub script_stops : (chunks : ℕ) (bytes : List ℕ) (zones : List Zone) → zones_of (zone_lines bytes) ≡ Ok zones → (s : Stop) → IsStop (ScriptStops (script_of (origins_of zones) (script_start bytes) (script_lines bytes))) s → IsStop (ZonesAnswers chunks (zones_job_of bytes)) s
script_stops chunks bytes zones z s h = stop_as (ScriptStops (script_of (origins_of zones) (script_start bytes) (script_lines bytes))) (ZonesAnswers chunks (zones_job_of bytes)) s (λ status text. by_read (script_of (origins_of zones) (script_start bytes) (script_lines bytes)) status text refl) h
  where
    by_read : (r : Result (List (List Command)) (Refused ScriptKind)) (status : Status) (text : List ℕ) → script_of (origins_of zones) (script_start bytes) (script_lines bytes) ≡ r → ScriptStops r status text → ZonesAnswers chunks (zones_job_of bytes) status text
    by_read (Ok workers) status text w h = absurd h
    by_read (Err e) status text w h = answers_as chunks (zones_job_of bytes) (Err (ScriptRefused e)) status text (by_script bytes zones (Err e) z w) h

-- several zones that are refused
pub list_stops : (chunks : ℕ) (bytes : List ℕ) (s : Stop) → IsStop (ListStops (zones_of (zone_lines bytes))) s → IsStop (ZonesAnswers chunks (zones_job_of bytes)) s
list_stops chunks bytes s h = stop_as (ListStops (zones_of (zone_lines bytes))) (ZonesAnswers chunks (zones_job_of bytes)) s (λ status text. by_read (zones_of (zone_lines bytes)) status text refl) h
  where
    by_read : (r : Result (List Zone) (Refused ZoneKind)) (status : Status) (text : List ℕ) → zones_of (zone_lines bytes) ≡ r → ListStops r status text → ZonesAnswers chunks (zones_job_of bytes) status text
    by_read (Ok zones) status text z h = absurd h
    by_read (Err e) status text z h = answers_as chunks (zones_job_of bytes) (Err (ListRefused e)) status text (by_zones bytes (Err e) z) h

-- zones that their reader refused, or that memory was wanting for
pub list_is_refused : {R : Type 0} (view : R → List Zone) (lines wanted : List (List ℕ)) (r : ZoneRefusal) (s : Stop) → lines ≡ wanted → Reads (Err r) view (zones_of lines) → ZoneStopsFor r s → IsStop (ListStops (zones_of wanted)) s
list_is_refused view lines wanted r (stops.Refused status text) same says h = subst (λ (x : Result (List Zone) (Refused ZoneKind)). ListStops x status text) (sym (ap zones_of (sym same) ∙ says h.0)) h.1
list_is_refused view lines wanted r stops.Memory same says h = tt

-- ---- what is so of an input

pub starts_late : (bytes : List ℕ) (first : ℕ) → first ≡ script_start bytes → 1 ≤ first
starts_late bytes first e = subst (λ (n : ℕ). 1 ≤ n) (sym e) (by_cut (list_any is_cut (lines_of bytes)))
  where
    by_cut : (b : Bool) → 1 ≤ cond b (length (zone_lines bytes) + 2) (length (zone_lines bytes) + 1)
    by_cut true = omega arith
    by_cut false = omega arith

origins_named : (zones : List Zone) → AllByRecursion IsRead zones → AllByRecursion IsName (origins_of zones)
origins_named [] h = tt
origins_named (zone ∷ zones) h = (h.0.0, origins_named zones h.1)

pub names_are : (zones : List Zone) (origins : List Name) → origins ≡ origins_of zones → AllByRecursion IsRead zones → AllByRecursion IsName origins
names_are zones origins e h = subst (AllByRecursion IsName) (sym e) (origins_named zones h)

-- there are as many origins as zones
pub as_many : (zones : List Zone) (origins : List Name) → origins ≡ origins_of zones → length zones ≤ 16 → length origins ≤ 16
as_many zones origins e few = subst (λ (n : ℕ). n ≤ 16) (sym (ap length e ∙ length-map zones (λ z. z.origin))) few

pub said_over : (zones : List Zone) (origins : List Name) (workers : List (List Command)) → origins ≡ origins_of zones → AllByRecursion (AllByRecursion (IsSaid origins)) workers → AllByRecursion (AllByRecursion (IsSaid (origins_of zones))) workers
said_over zones origins workers e h = subst (λ (os : List Name). AllByRecursion (AllByRecursion (IsSaid os)) workers) e h
