-- What is reported of a job that was run.
use Rattle.std.proofs.Common.{◌≡◌, ◌∙◌, ℕ, zero, suc, ◌+◌, ◌-◌, ◌≤◌, Bool, true, cond, List, [], ◌++◌, length, map, take, drop, Ok, refl, sym, ap, subst, arith}
use Rattle.std.proofs.lemmas.List.{take_all, length-drop}
use Rattle.std.proofs.lemmas.Bool.{le-leb}
use Rattle.std.specs.List.{AllByRecursion, list_any, range_with_len}
use Rattle.zone_model.specs.Names.{Name}
use Rattle.zone_model.specs.Versions.{Version}
use Rattle.zone_model.specs.Lines.{lines_of}
use Rattle.job_model.specs.Commands.{Command}
use Rattle.job_model.specs.Jobs.{script_lines}
use Rattle.job_model.specs.Outcomes.{AllAlong, Pair, JudgedBy, all_pairs, is_refused, passes_for, judged_by, times_made, version_at}
use Rattle.job_model.specs.Reports.{end_text}
use Rattle.job_model.specs.Feeds.{by_worker, pairs_by, passes_fed}
use Rattle.job_model.proofs.FeedLaws.{workers_fed}
use Rattle.job_script.specs.Parts.{IsCutAt}
use Rattle.job_report.specs.Outcomes.{ended_view, job_pairs, versions_made}
use Rattle.job_report.specs.declared.outcomes.Outcome.{Outcome}
use Rattle.job_report.specs.declared.outcomes.Outcomes.{Outcomes}
use Rattle.job_report.specs.Feeds.{fed_outcomes_text, fed_pairs}
use Rattle.job_report.specs.declared.outcomes.FedOutcome.{FedOutcome}
use Rattle.job_report.proofs.FeedLemmas.{fed_refused, fed_reported, fed_same}
use Rattle.job_report.proofs.ReportLemmas.{reported, refused_told, workers_same}
use Rattle.job_report.proofs.SummaryLemmas.{summed_up}
use Rattle.need_laws.specs.Bounds.{IsSaidJob, IsSaidList}
use Rattle.need_laws.proofs.ListLaws.{list_room}
use Rattle.need_laws.proofs.RoomLaws.{sized_room}
use Rattle.qp_main.specs.Tellings.{finished_text, told_text}
use Rattle.qp_main.specs.declared.run_report.Telling.{Telling}
use Rattle.qp_main.specs.declared.run_report.Telling.TheVariants.{Report, Summary}
use Rattle.job_model.specs.Sizes.{cell_count}
use Rattle.qp_multi.specs.Openings.{room_in}
use Rattle.job_commands.specs.Runs.{IsRun}
use Rattle.feed_threads.specs.Zones.{FedRanOn}
use Rattle.job_threads.specs.Zones.{RanOn}
use Rattle.feed_threads.specs.declared.feeding.FedFinished.{FedFinished}
use Rattle.job_threads.specs.declared.job.Finished.{Finished}
use Rattle.feed_threads.specs.declared.zone.FedRan.TheVariants as fed
use Rattle.job_threads.specs.declared.zone.Ran.TheVariants as ran
use Rattle.qp_main.specs.Fits.{fits}
use Rattle.qp_main.specs.Due.{Answers, FedAnswers, FedReported, Reported}
use Rattle.qp_main.proofs.DueLemmas.{fitting}
use Rattle.qp_main.specs.declared.status.Status.{Status}
use Rattle.qp_main.specs.declared.status.Status.TheVariants as status

-- what is printed of a job that was run tells of it
told : (telling : Telling) (chunks passes : ℕ) (origin : Name) (zone : Version) (ws : List (List Command)) (f : Finished) → IsRun chunks passes origin zone ws f.outcomes.items f.version f.names f.nodes
    → finished_text telling f ≡ told_text telling origin zone (job_pairs ws f.outcomes.items) f.version
told Report chunks passes origin zone ws f r = reported origin zone ws f.outcomes.items f.version f.names r.tell r.names_are
told Summary chunks passes origin zone ws f r = summed_up origin zone ws f.outcomes.items f.version f.names f.nodes r.tell r.names_are r.nodes_are

job_reported : (telling : Telling) (chunks : ℕ) (origin : Name) (zone : Version) (ws : List (List Command)) (f : Finished) (text : List ℕ) (refused : Bool) (s : Status) → IsRun chunks (passes_for (length ws)) origin zone ws f.outcomes.items f.version f.names f.nodes → text ≡ finished_text telling f
    → refused ≡ list_any (λ (w : Outcomes). list_any (λ (o : Outcome). is_refused (ended_view o.told)) w.list.items) f.outcomes.items → s ≡ cond refused status.SomeRefused status.Done
    → IsSaidJob (record { origin = origin; zone = zone; workers = ws }) → Reported telling chunks (record { origin = origin; zone = zone; workers = ws }) s text
job_reported telling chunks origin zone ws f text refused s r printed some ended said = record {
  workers = job_pairs ws f.outcomes.items;
  last = f.version;
  same = workers_same origin (versions_made origin zone ws f.outcomes.items) ws f.outcomes.items r.tell;
  lawful = r.lawful;
  is = printed ∙ told telling chunks (passes_for (length ws)) origin zone ws f r;
  ended = ended ∙ ap (λ (b : Bool). cond b status.SomeRefused status.Done) (some ∙ refused_told origin (versions_made origin zone ws f.outcomes.items) ws f.outcomes.items r.tell);
  finds_room = λ sized. sized_room (record { origin = origin; zone = zone; workers = ws }) said (job_pairs ws f.outcomes.items) (workers_same origin (versions_made origin zone ws f.outcomes.items) ws f.outcomes.items r.tell) chunks f.version sized r.lawful;
}

pub it_fits : (chunks : ℕ) (zone : Version) → cell_count zone ≤ room_in chunks → fits chunks zone ≡ true
it_fits chunks zone h = le-leb (cell_count zone) (room_in chunks) h

-- a job that was run on a zone that fits
pub job_told : (telling : Telling) (chunks : ℕ) (origin : Name) (zone : Version) (ws : List (List Command)) (f : Finished) (text : List ℕ) (refused : Bool) (s : Status) → RanOn chunks origin zone ws (ran.Finished f) → text ≡ finished_text telling f
    → refused ≡ list_any (λ (w : Outcomes). list_any (λ (o : Outcome). is_refused (ended_view o.told)) w.list.items) f.outcomes.items → s ≡ cond refused status.SomeRefused status.Done
    → IsSaidJob (record { origin = origin; zone = zone; workers = ws }) → Answers telling chunks (Ok (record { origin = origin; zone = zone; workers = ws })) s text
job_told telling chunks origin zone ws f text refused s r printed some ended said =
    fitting chunks zone (Reported telling chunks (record { origin = origin; zone = zone; workers = ws })) s text (it_fits chunks zone r.0) (job_reported telling chunks origin zone ws f text refused s r.1 printed some ended said)

-- ---- one list of commands

-- what is printed of a list that was handed out
pub list_told : (workers chunks : ℕ) (origin : Name) (zone : Version) (cs : List Command) (f : FedFinished) (text : List ℕ) (refused : Bool) (s : Status) → FedRanOn chunks workers origin zone cs (fed.Finished f) → text ≡ fed_outcomes_text 1 f.outcomes.items ++ end_text f.version f.names
    → refused ≡ list_any (λ (o : FedOutcome). is_refused (ended_view o.outcome.told)) f.outcomes.items → s ≡ cond refused status.SomeRefused status.Done
    → IsSaidList (record { origin = origin; zone = zone; commands = cs }) → FedAnswers workers chunks (Ok (record { origin = origin; zone = zone; commands = cs })) s text
list_told workers chunks origin zone cs f text refused s r printed some ended said =
    let set : ℕ → Version = version_at origin zone (all_pairs (by_worker workers (fed_pairs cs f.outcomes.items))) in
    fitting chunks zone (FedReported workers chunks (record { origin = origin; zone = zone; commands = cs })) s text (it_fits chunks zone r.0) (record {
      fed = fed_pairs cs f.outcomes.items;
      last = f.version;
      same = fed_same origin set cs f.outcomes.items r.1.tell;
      handed_out = r.1.handed_out;
      lawful = r.1.lawful;
      is = printed ∙ fed_reported origin zone workers cs f.outcomes.items f.version f.names r.1.tell r.1.names_are;
      ended = ended ∙ ap (λ (b : Bool). cond b status.SomeRefused status.Done) (some ∙ fed_refused origin set cs f.outcomes.items r.1.tell);
      finds_room = λ sized. list_room (record { origin = origin; zone = zone; commands = cs }) said (fed_pairs cs f.outcomes.items) (fed_same origin set cs f.outcomes.items r.1.tell) workers chunks f.version sized r.1.handed_out r.1.lawful;
    })

-- no commands make no versions, however many workers there are

no_pairs : (from workers : ℕ) → all_pairs (map (λ w. pairs_by w []) (range_with_len from workers)) ≡ []
no_pairs from zero = refl
no_pairs from (suc workers) = no_pairs (from + 1) workers

no_pairs_along : (judged : JudgedBy) (from workers : ℕ) → AllAlong judged (map (λ w. pairs_by w []) (range_with_len from workers))
no_pairs_along judged from zero = tt
no_pairs_along judged from (suc workers) = (tt, no_pairs_along judged (from + 1) workers)

pub none_told : (workers chunks : ℕ) (origin : Name) (zone : Version) (f : Finished) (text : List ℕ) → RanOn chunks origin zone [] (ran.Finished f) → text ≡ [] ++ end_text f.version f.names
    → FedAnswers workers chunks (Ok (record { origin = origin; zone = zone; commands = [] })) status.Done text
none_told workers chunks origin zone f text r printed =
    let none : all_pairs (by_worker workers []) ≡ [] = no_pairs 1 workers in
    let made : version_at origin zone (all_pairs (by_worker workers [])) f.version ≡ versions_made origin zone [] f.outcomes.items f.version = ap (λ (ps : List Pair). version_at origin zone ps f.version) none in
    fitting chunks zone (FedReported workers chunks (record { origin = origin; zone = zone; commands = [] })) status.Done text (it_fits chunks zone r.0) (record {
      fed = [];
      last = f.version;
      same = refl;
      handed_out = workers_fed workers [] tt;
      lawful = record {
        once = λ j some le. ap (times_made j) none ∙ r.1.lawful.once j some le;
        none_above = subst (AllByRecursion (λ (pair : Pair). pair.1.version ≤ f.version)) (sym none) tt;
        along = no_pairs_along (judged_by chunks (passes_fed workers) origin zone (by_worker workers [])) 1 workers;
      };
      is = printed ∙ ap (λ (n : ℕ). [] ++ end_text f.version n) (r.1.names_are ∙ ap length (sym made));
      ended = refl;
      finds_room = λ sized. tt;
    })

-- the lines behind the place where an input is cut
pub lines_behind : (bytes : List ℕ) {zone_end from first : ℕ} → IsCutAt bytes zone_end from first → lines_of (take (length bytes - from) (drop from bytes)) ≡ script_lines bytes
lines_behind bytes {from = from} cut =
    let whole : take (length bytes - from) (drop from bytes) ≡ drop from bytes = take_all (length bytes - from) (drop from bytes) (omega (arith, length-drop from bytes)) in
    ap lines_of whole ∙ cut.script
