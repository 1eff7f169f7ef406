-- Workers that are done, one after another.
use Rattle.std.proofs.Common.{◌≡◌, ◌∙◌, ℕ, ◌<◌, ◌≤◌, Bool, true, false, cond, eqb, List, [], ◌∷◌, length, Option, Some, None, Result, Ok, Err, IfOk, refl, sym, ap, subst, arith, length-append}
use Rattle.std.specs.Prelude.{Vec}
use Rattle.std.specs.Global.{Global}
use Rattle.std.specs.List.{slice_get}
use Rattle.std.proofs.lemmas.List.{length-map}
use Rattle.zone_model.specs.Names.{Name}
use Rattle.job_model.specs.Commands as jobs
use Rattle.job_model.specs.declared.Question.{Question}
use Rattle.job_model.specs.declared.Question.TheVariants as question
use Rattle.job_report.specs.declared.outcomes.Outcome.{Outcome}
use Rattle.job_report.specs.declared.outcomes.Outcomes.{Outcomes}
use Rattle.shared_cells.specs.declared.view.TableSize.{TableSize}
use Rattle.shared_cells.specs.Views.{is_told}
use Rattle.qp_multi.specs.declared.meaning.Named.{Ghosts}
use Rattle.qp_multi.specs.Passes.{Known, known_at, Learnt}
use Rattle.job_commands.specs.Histories.{OpenedWith}
use Rattle.job_commands.specs.Commands.{IsIndex, IsOpenedWith}
use Rattle.job_commands.specs.Closings.{Handed}
use Rattle.job_commands.specs.Works.{only, IsNew, AreNew, WorkerRan, ended}
use Rattle.job_commands.proofs.GatherLaws.{gathers_main, gathers_server, handed_main, handed_more, number_kept}
use Rattle.zones_model.specs.Commands as model
use Rattle.zones_model.specs.Commands.{Command}
use Rattle.zones_model.specs.Outcomes as model_outcomes
use Rattle.zone_table.specs.declared.note.ZonesNote.{ZonesNote}
use Rattle.zone_table.specs.declared.pass.ZonesPass.{ZonesPass}
use Rattle.zone_table.specs.Notes.{HasLearnt, Tells}
use Rattle.zone_table.specs.Passes.{IsPassOf, zone_known, zones_known}
use Rattle.zone_table.proofs.Lists.{mapped_at}
use Rattle.zones_report.specs.declared.outcomes.Answer.{Answer}
use Rattle.zones_report.specs.declared.outcomes.CommandEnd.{CommandEnd}
use Rattle.zones_report.specs.declared.outcomes.CommandEnd.TheVariants as done
use Rattle.zones_report.specs.declared.outcomes.CommandEnds.{CommandEnds}
use Rattle.zones_threads.specs.Closings.{TableGathers, TableWorker, ZoneGathers, zone_commands}
use Rattle.zones_threads.specs.Views.{Part, answer_part, commands_of, outcomes_of, part_in, parts_in}
use Rattle.zones_threads.specs.Works.{TableOpenedWith, TableWork}
use Rattle.zone_table.proofs.PassLaws.{zone_seat}

-- ---- what a note tells of a zone

module _ {X : Type 0} {N : Ghosts X} (origins : List Name) (zone : ℕ) (lt : zone < length origins) where
  known_get : (p : ZonesPass X N) → IsPassOf origins p → slice_get (zones_known p) zone ≡ Some (zone_known p zone)
  known_get p is = let q = zone_seat origins p is zone lt in mapped_at (λ z. known_at z.seat) p.zones.items zone q.0 q.1 ∙ ap Some (sym q.3)

  pub zone_learnt : (old new teller : ZonesPass X N) (note : ZonesNote X N) → IsPassOf origins old → IsPassOf origins new → IsPassOf origins teller → Tells teller note → HasLearnt old new note → Learnt (zone_known old zone) (zone_known new zone) (zone_known teller zone).seen
  zone_learnt old new teller note is_old is_new is_teller tells learnt =
      learnt.zones zone (zone_known old zone) (zone_known new zone) (zone_known teller zone).seen (known_get old is_old) (known_get new is_new)
      (ap (λ l. slice_get l zone) tells.zones ∙ mapped_at (λ (v : Known). v.seen) (zones_known teller) zone (zone_known teller zone) (known_get teller is_teller))

-- ---- the outcomes of a zone, as a list of the same type

pub outcomes_from : (v : Vec CommandEnd Global) (os : List Outcome) → length os ≤ length v.items → Outcomes
outcomes_from v os le = record { list = record { ptr = v.ptr; len = length os; cap = v.cap; alloc = v.alloc; items = os; ok = (refl, (let a = v.ok.0 in let b = v.ok.1 in omega (arith, a, b, le))); small = v.small } }

at_most_one : (b : Bool) (p : Part) → length (cond b (p ∷ []) []) ≤ 1
at_most_one true p = omega arith
at_most_one false p = omega arith

short_answer : (zone : ℕ) (question : Question) (answer : Option Answer) → length (answer_part zone question answer) ≤ 1
short_answer zone question None = omega arith
short_answer zone question (Some a) = at_most_one (eqb a.zone zone) (record { command = jobs.Ask question; outcome = a.outcome })

short_part : (zone : ℕ) (c : Command) (d : CommandEnd) → length (part_in zone c d) ≤ 1
short_part zone (model.Get name rtype) (done.Got table answer) = short_answer zone (question.Get name rtype) answer
short_part zone (model.Block changed w asked ending) (done.Ran ran o) = at_most_one (eqb changed zone) (record { command = jobs.Block w asked ending; outcome = o })
short_part zone (model.Get name rtype) (done.Ran ran o) = omega arith
short_part zone (model.Get name rtype) (done.Attached table refused) = omega arith
short_part zone (model.Get name rtype) (done.Detached table refused) = omega arith
short_part zone (model.Block changed w asked ending) (done.Got table answer) = omega arith
short_part zone (model.Block changed w asked ending) (done.Attached table refused) = omega arith
short_part zone (model.Block changed w asked ending) (done.Detached table refused) = omega arith
short_part zone (model.Attach changed) d = omega arith
short_part zone (model.Detach changed) d = omega arith

short_parts : (zone : ℕ) (cs : List Command) (ds : List CommandEnd) → length (parts_in zone cs ds) ≤ length ds
short_parts zone [] ds = omega arith
short_parts zone (c ∷ cs) [] = omega arith
short_parts zone (c ∷ cs) (d ∷ ds) = (let one = short_part zone c d in let more = short_parts zone cs ds in omega (arith, one, more, length-append (part_in zone c d) (parts_in zone cs ds)))

zone_list : (zone : ℕ) (w : List Command) (d : CommandEnds) → Outcomes
zone_list zone w d = outcomes_from d.list (outcomes_of (parts_in zone w d.list.items)) (let l = short_parts zone w d.list.items in omega (arith, l, length-map (parts_in zone w d.list.items) (λ (p : Part). p.outcome)))

-- ---- a zone's workers

pub zone_starts : (s : OpenedWith) (zone : ℕ) (before views : List Known) (main : Known) (ws : List (List Command)) (ds : List CommandEnds) → before ≡ main ∷ views → length before ≡ 1 → ws ≡ [] → AreNew s.opening before → ZoneGathers s zone before ws ds views main
zone_starts s zone before views main ws ds is long none new =
    subst (λ (l : List (List Command)). ZoneGathers s zone before l ds views main) (sym none)
    (record { outcomes = []; outcomes_are = refl; gathers = gathers_main s before views main [] [] is long refl refl new })

pub zone_more : (s : OpenedWith) (zone : ℕ) (origin : Name) (size : TableSize) → IsIndex s origin size → (all before : List Known) (pass : Known) (ws : List (List Command)) (ds : List CommandEnds) (views : List Known) (main after pass' : Known) (w : List Command) (d : CommandEnds) → all ≡ pass ∷ before → AreNew s.opening all
    → (AreNew s.opening before → ZoneGathers s zone before ws ds views main)
    → ((n : ℕ) → IsOpenedWith s origin size pass → IsNew n s.opening pass → WorkerRan s (only n) (ended pass' pass) (commands_of (parts_in zone w d.list.items)) (outcomes_of (parts_in zone w d.list.items))) → is_told main.seen.opening ≡ true → Learnt main after pass'.seen
    → ZoneGathers s zone all (w ∷ ws) (d ∷ ds) (pass' ∷ views) after
unfolding zone_list outcomes_from
zone_more s zone origin size index all before pass ws ds views main after pass' w d is new rest runs told l =
    let g = rest (subst (AreNew s.opening) is new).1 in
    record {
      outcomes = zone_list zone w d ∷ g.outcomes;
      outcomes_are = ap (λ (os : List (List Outcome)). outcomes_of (parts_in zone w d.list.items) ∷ os) g.outcomes_are;
      gathers = gathers_server s origin size index all before pass (zone_commands zone ws ds) g.outcomes views main after pass' (commands_of (parts_in zone w d.list.items)) (zone_list zone w d) is new (λ those. g.gathers) runs told l;
    }

-- by what was told of them
pub zone_done : (s : OpenedWith) (zone : ℕ) (before : List Known) (ws : List (List Command)) (ds ds' : List CommandEnds) (views views' : List Known) (after : Known) → ds' ≡ ds → views' ≡ views → ZoneGathers s zone before ws ds views after
    → ZoneGathers s zone before ws ds' views' after
zone_done s zone before ws ds ds' views views' after is_done is_views gathers =
    subst (λ (l : List CommandEnds). ZoneGathers s zone before ws l views' after) (sym is_done) (subst (λ (l : List Known). ZoneGathers s zone before ws ds l after) (sym is_views) gathers)

-- ---- the table's workers

pub table_starts : (b : TableOpenedWith) (before views : List Known) (main : Known) (dones : List (List model_outcomes.CommandEnd)) → before ≡ main ∷ views → length before ≡ 1 → dones ≡ [] → AreNew b.opening before → TableGathers b before dones views main
table_starts b before views main dones is long none new =
    let h = handed_main b.opening (λ (w : TableWorker b). w.view) before views main is long new in record { done = []; dones_are = none; views_are = h.0; handed = h.1 }

-- another worker, whose pass was the first one
pub table_more : (b : TableOpenedWith) (all before : List Known) (pass : Known) (dones : List (List model_outcomes.CommandEnd)) (views : List Known) (main after pass' : Known) (d : List model_outcomes.CommandEnd) → all ≡ pass ∷ before → AreNew b.opening all → (AreNew b.opening before → TableGathers b before dones views main)
    → ((n : ℕ) → IsNew n b.opening pass → TableWork b n pass' d) → is_told main.seen.opening ≡ true → Learnt main after pass'.seen → TableGathers b all (d ∷ dones) (pass' ∷ views) after
table_more b all before pass dones views main after pass' d is new rest runs told l =
    let n = subst (AreNew b.opening) is new in
    let g = rest n.1 in
    let work = runs n.0.0 n.0.1 in
    let worker : TableWorker b = record { number = n.0.0; view = pass'; done = d; work = work } in
    record {
      done = worker ∷ g.done;
      dones_are = ap (λ (ls : List (List model_outcomes.CommandEnd)). d ∷ ls) g.dones_are;
      views_are = ap (λ (vs : List Known). pass' ∷ vs) g.views_are;
      handed = subst (λ (vs : List Known). Handed b.opening (λ (w : TableWorker b). w.view) vs (pass' ∷ views) after (worker ∷ g.done)) (sym is)
          (handed_more b.opening (λ (w : TableWorker b). w.view) before views (pass ∷ []) (pass' ∷ []) main after g.done worker g.handed refl
          (ap (λ (k : ℕ). k ∷ []) (number_kept b.opening n.0.0 pass pass' work.asker n.0.1 work.is_asker work.numbered)) told l);
    }

pub table_done : (b : TableOpenedWith) (before : List Known) (ds ds' : List (List model_outcomes.CommandEnd)) (views views' : List Known) (after : Known) → ds' ≡ ds → views' ≡ views → TableGathers b before ds views after → TableGathers b before ds' views' after
table_done b before ds ds' views views' after is_done is_views gathers =
    subst (λ (l : List (List model_outcomes.CommandEnd)). TableGathers b before l views' after) (sym is_done) (subst (λ (l : List Known). TableGathers b before ds l after) (sym is_views) gathers)

-- what is so of each value, where there is one
pub at_each : {G E : Type 0} (r : Result G E) (P : G → Type 0) → ((g : G) → r ≡ Ok g → P g) → IfOk r P
at_each (Ok g) P f = f g refl
at_each (Err e) P f = tt
