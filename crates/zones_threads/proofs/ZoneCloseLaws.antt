-- What all workers together have made of each zone.
use Rattle.std.proofs.Common.{◌≡◌, ◌∙◌, ℕ, Bool, true, false, cond, eqb, List, [], ◌∷◌, ◌++◌, length, map, Option, Some, None, refl, sym, ap, subst}
use Rattle.std.specs.List.{AllByRecursion}
use Rattle.std.specs.Option.{option_map}
use Rattle.std.proofs.lemmas.List.{map-append}
use Rattle.zone_model.specs.Names.{Name}
use Rattle.zone_model.specs.Versions.{Version}
use Rattle.job_model.specs.Commands as jobs
use Rattle.job_model.specs.declared.Question.TheVariants as question
use Rattle.job_model.specs.Outcomes as one
use Rattle.job_model.specs.Outcomes.{Pair, Ended, Lawful}
use Rattle.job_report.specs.Outcomes.{outcome_view, pairs_of, job_pairs}
use Rattle.job_report.specs.declared.outcomes.Outcome.{Outcome}
use Rattle.job_report.specs.declared.outcomes.Outcomes.{Outcomes}
use Rattle.job_commands.specs.Runs.{IsRun}
use Rattle.zones_model.specs.Commands as model
use Rattle.zones_model.specs.Commands.{Command}
use Rattle.zones_model.specs.Outcomes as model_outcomes
use Rattle.zones_report.specs.declared.outcomes.Answer.{Answer}
use Rattle.zones_report.specs.declared.outcomes.CommandEnd.{CommandEnd}
use Rattle.zones_report.specs.declared.outcomes.CommandEnd.TheVariants as done
use Rattle.zones_report.specs.declared.outcomes.CommandEnds.{CommandEnds}
use Rattle.zones_threads.specs.Closings.{all_parts, zone_commands, zone_outcomes}
use Rattle.zones_threads.specs.Tellings.{PartsTell}
use Rattle.zones_threads.proofs.TellLaws.{parts_tell}
use Rattle.zones_report.specs.Outcomes.{AllAreOf, AreOf, IsOf, IsShown, all_dones_view, done_view, dones_view, shown_view}
use Rattle.zones_threads.specs.Views.{Part, answer_part, commands_of, outcomes_of, part_in, parts_in}

abbrev pub pair_of : Part → Pair
pair_of p = (p.command, outcome_view p.outcome)

-- ---- the parts of a zone, as the definitions see them

same_if : (b : Bool) (x : Pair) (p : Part) → x ≡ pair_of p → cond b (x ∷ []) [] ≡ map pair_of (cond b (p ∷ []) [])
same_if true x p e = ap (λ (y : Pair). y ∷ []) e
same_if false x p e = refl

same_answer : (zone : ℕ) (name : Name) (rtype : ℕ) (answer : Option Answer) → IsShown answer → model_outcomes.pair_shown zone name rtype (option_map shown_view answer) ≡ map pair_of (answer_part zone (question.Get name rtype) answer)
same_answer zone name rtype None shown = refl
same_answer zone name rtype (Some a) shown =
    let ask : jobs.Command = jobs.Ask (question.Get name rtype) in
    let version = a.outcome.version in
    same_if (eqb a.zone zone) (ask, record { version = version; ended = one.Shown }) (record { command = ask; outcome = a.outcome }) (ap (λ (e : Ended). (ask, record { version = version; ended = e })) (sym shown))

same_part : (zone : ℕ) (c : Command) (d : CommandEnd) → IsOf c d → model_outcomes.pairs_in zone (done_view c d) ≡ map pair_of (part_in zone c d)
same_part zone (model.Get name rtype) (done.Got table answer) is = same_answer zone name rtype answer is
same_part zone (model.Block changed w asked ending) (done.Ran ran o) is = same_if (eqb changed zone) (jobs.Block w asked ending, outcome_view o) (record { command = jobs.Block w asked ending; outcome = o }) refl
same_part zone (model.Attach changed) (done.Attached table refused) is = refl
same_part zone (model.Detach changed) (done.Detached table refused) is = refl
same_part zone (model.Get name rtype) (done.Ran ran o) is = absurd is
same_part zone (model.Get name rtype) (done.Attached table refused) is = absurd is
same_part zone (model.Get name rtype) (done.Detached table refused) is = absurd is
same_part zone (model.Block changed w asked ending) (done.Got table answer) is = absurd is
same_part zone (model.Block changed w asked ending) (done.Attached table refused) is = absurd is
same_part zone (model.Block changed w asked ending) (done.Detached table refused) is = absurd is
same_part zone (model.Attach changed) (done.Got table answer) is = absurd is
same_part zone (model.Attach changed) (done.Ran ran o) is = absurd is
same_part zone (model.Attach changed) (done.Detached table refused) is = absurd is
same_part zone (model.Detach changed) (done.Got table answer) is = absurd is
same_part zone (model.Detach changed) (done.Ran ran o) is = absurd is
same_part zone (model.Detach changed) (done.Attached table refused) is = absurd is

same_parts : (zone : ℕ) (cs : List Command) (ds : List CommandEnd) → AreOf cs ds → model_outcomes.pairs_of zone (dones_view cs ds) ≡ map pair_of (parts_in zone cs ds)
same_parts zone [] ds are = refl
same_parts zone (c ∷ cs) [] are = absurd are
same_parts zone (c ∷ cs) (d ∷ ds) are =
    ap (λ (ps : List Pair). ps ++ model_outcomes.pairs_of zone (dones_view cs ds)) (same_part zone c d are.0)
    ∙ ap (λ (ps : List Pair). map pair_of (part_in zone c d) ++ ps) (same_parts zone cs ds are.1)
    ∙ sym (map-append pair_of (part_in zone c d) (parts_in zone cs ds))

abbrev pub pairs_in_all : List (List Part) → List (List Pair)
pairs_in_all parts = map (λ (ps : List Part). map pair_of ps) parts

same_all : (zone : ℕ) (ws : List (List Command)) (ds : List CommandEnds) → AllAreOf ws ds → model_outcomes.workers_in zone (all_dones_view ws ds) ≡ pairs_in_all (all_parts zone ws ds)
same_all zone [] ds are = refl
same_all zone (w ∷ ws) [] are = absurd are
same_all zone (w ∷ ws) (d ∷ ds) are =
    ap (λ (p : List Pair). p ∷ model_outcomes.workers_in zone (all_dones_view ws ds)) (same_parts zone w d.list.items are.0)
    ∙ ap (λ (ps : List (List Pair)). map pair_of (parts_in zone w d.list.items) ∷ ps) (same_all zone ws ds are.1)

-- ---- as a job over that zone alone

pairs_alone : (parts : List Part) → pairs_of (commands_of parts) (outcomes_of parts) ≡ map pair_of parts
pairs_alone [] = refl
pairs_alone (p ∷ parts) = ap (λ (ps : List Pair). pair_of p ∷ ps) (pairs_alone parts)

jobs_alone : (parts : List (List Part)) (os : List Outcomes) → map (λ (o : Outcomes). o.list.items) os ≡ map outcomes_of parts → job_pairs (map commands_of parts) os ≡ pairs_in_all parts
jobs_alone [] os e = refl
jobs_alone (ps ∷ parts) [] e = absurd (let z : [] ≡ outcomes_of ps ∷ map outcomes_of parts = e in cc)
jobs_alone (ps ∷ parts) (o ∷ os) e =
    let first : o.list.items ≡ outcomes_of ps = (let z : o.list.items ∷ map (λ (x : Outcomes). x.list.items) os ≡ outcomes_of ps ∷ map outcomes_of parts = e in cc) in
    let rest : map (λ (x : Outcomes). x.list.items) os ≡ map outcomes_of parts = (let z : o.list.items ∷ map (λ (x : Outcomes). x.list.items) os ≡ outcomes_of ps ∷ map outcomes_of parts = e in cc) in
    ap (λ (l : List Outcome). pairs_of (commands_of ps) l ∷ job_pairs (map commands_of parts) os) first
    ∙ ap (λ (p : List Pair). p ∷ job_pairs (map commands_of parts) os) (pairs_alone ps)
    ∙ ap (λ (l : List (List Pair)). map pair_of ps ∷ l) (jobs_alone parts os rest)

-- the pairs of a zone
pub zone_pairs : (zone : ℕ) (ws : List (List Command)) (ds : List CommandEnds) (os : List Outcomes) → AllAreOf ws ds → map (λ (o : Outcomes). o.list.items) os ≡ zone_outcomes zone ws ds → job_pairs (zone_commands zone ws ds) os ≡ model_outcomes.workers_in zone (all_dones_view ws ds)
zone_pairs zone ws ds os are is = jobs_alone (all_parts zone ws ds) os is ∙ sym (same_all zone ws ds are)

-- what a run of that zone alone comes to
pub zone_lawful : (chunks passes : ℕ) (origin : Name) (version : Version) (zone last names nodes : ℕ) (ws : List (List Command)) (ds : List CommandEnds) (os : List Outcomes) → AllAreOf ws ds → map (λ (o : Outcomes). o.list.items) os ≡ zone_outcomes zone ws ds
    → IsRun chunks passes origin version (zone_commands zone ws ds) os last names nodes → Lawful chunks passes origin version (model_outcomes.workers_in zone (all_dones_view ws ds)) last
zone_lawful chunks passes origin version zone last names nodes ws ds os are is run = subst (λ (ps : List (List Pair)). Lawful chunks passes origin version ps last) (zone_pairs zone ws ds os are is) run.lawful

-- and how many names its last version has
pub zone_names : (chunks passes : ℕ) (origin : Name) (version : Version) (zone last names nodes : ℕ) (ws : List (List Command)) (ds : List CommandEnds) (os : List Outcomes) → AllAreOf ws ds → map (λ (o : Outcomes). o.list.items) os ≡ zone_outcomes zone ws ds
    → IsRun chunks passes origin version (zone_commands zone ws ds) os last names nodes → names ≡ length (one.version_at origin version (one.all_pairs (model_outcomes.workers_in zone (all_dones_view ws ds))) last)
zone_names chunks passes origin version zone last names nodes ws ds os are is run = run.names_are ∙ ap (λ (ps : List (List Pair)). length (one.version_at origin version (one.all_pairs ps) last)) (zone_pairs zone ws ds os are is)

-- and what is of the zone tells what is so
pub zone_tells : (chunks passes : ℕ) (origin : Name) (version : Version) (zone last names nodes : ℕ) (ws : List (List Command)) (ds : List CommandEnds) (os : List Outcomes) → AllAreOf ws ds → map (λ (o : Outcomes). o.list.items) os ≡ zone_outcomes zone ws ds
    → IsRun chunks passes origin version (zone_commands zone ws ds) os last names nodes → AllByRecursion (PartsTell origin (one.version_at origin version (one.all_pairs (model_outcomes.workers_in zone (all_dones_view ws ds))))) (all_parts zone ws ds)
zone_tells chunks passes origin version zone last names nodes ws ds os are is run =
    subst (λ (ps : List (List Pair)). AllByRecursion (PartsTell origin (one.version_at origin version (one.all_pairs ps))) (all_parts zone ws ds)) (zone_pairs zone ws ds os are is)
    (parts_tell origin (one.version_at origin version (one.all_pairs (job_pairs (zone_commands zone ws ds) os))) (all_parts zone ws ds) os is run.tell)
