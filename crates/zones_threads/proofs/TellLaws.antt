-- What became of commands tells what is so, since what is of each zone does.
use Rattle.std.proofs.Common.{◌≡◌, ℕ, ◌<◌, Bool, cond, eqb, List, [], ◌∷◌, ◌++◌, length, map, Option, Some, None, refl, sym, subst, eq-eqb}
use Rattle.std.specs.Option.{option_map}
use Rattle.std.specs.List.{AllByRecursion, slice_get}
use Rattle.std.proofs.lemmas.List.{length-map}
use Rattle.std.proofs.lemmas.Option.{get_or_from_slice_get, slice_get_within}
use Rattle.zone_model.specs.MasterFile.{Zone}
use Rattle.zone_model.specs.Names.{Name}
use Rattle.zone_model.specs.Versions.{Version}
use Rattle.job_model.specs.Commands as jobs
use Rattle.job_model.specs.declared.Question.TheVariants as question
use Rattle.job_report.specs.Outcomes.{AllTell, EachTells}
use Rattle.job_report.specs.declared.outcomes.Outcome.{Outcome}
use Rattle.job_report.specs.declared.outcomes.Outcomes.{Outcomes}
use Rattle.zones_model.specs.Commands as model
use Rattle.zones_model.specs.Commands.{Command, origins_of}
use Rattle.zones_model.specs.Outcomes as model_outcomes
use Rattle.zones_model.specs.Reports.{no_zone}
use Rattle.zones_model.specs.Tables.{zone_for}
use Rattle.zones_report.specs.declared.outcomes.Answer.{Answer}
use Rattle.zones_report.specs.declared.outcomes.CommandEnd.{CommandEnd}
use Rattle.zones_report.specs.declared.outcomes.CommandEnd.TheVariants as done
use Rattle.zones_report.specs.declared.outcomes.CommandEnds.{CommandEnds}
use Rattle.zone_table.proofs.Lists.{get_in}
use Rattle.zones_threads.specs.Closings.{all_parts}
use Rattle.zones_threads.specs.Sites.{IsSaid}
use Rattle.zones_threads.specs.Tellings.{AnswerTells, CommandEndTells, PartsTell, WorkerTells, WorkersTell}
use Rattle.zones_report.specs.Outcomes.{AllAreOf, AreOf, IsOf, all_dones_view, done_view, dones_view, shown_view}
use Rattle.zones_threads.specs.Views.{Part, commands_of, outcomes_of, part_in, parts_in}
use Rattle.zones_threads.proofs.ZoneForLaws.{for_some}

-- ---- of one zone

tells_first : (origin : Name) (set : ℕ → Version) (ps qs : List Part) → PartsTell origin set (ps ++ qs) → PartsTell origin set ps
tells_first origin set [] qs t = tt
tells_first origin set (p ∷ ps) qs t = (t.0, tells_first origin set ps qs t.1)

tells_rest : (origin : Name) (set : ℕ → Version) (ps qs : List Part) → PartsTell origin set (ps ++ qs) → PartsTell origin set qs
tells_rest origin set [] qs t = t
tells_rest origin set (p ∷ ps) qs t = tells_rest origin set ps qs t.1

-- the parts of all workers
pub parts_tell : (origin : Name) (set : ℕ → Version) (parts : List (List Part)) (os : List Outcomes) → map (λ (o : Outcomes). o.list.items) os ≡ map outcomes_of parts → AllTell origin set (map commands_of parts) os → AllByRecursion (PartsTell origin set) parts
parts_tell origin set [] os e t = tt
parts_tell origin set (ps ∷ parts) [] e t = absurd t
parts_tell origin set (ps ∷ parts) (o ∷ os) e t =
    let first : o.list.items ≡ outcomes_of ps = (let z : o.list.items ∷ map (λ (x : Outcomes). x.list.items) os ≡ outcomes_of ps ∷ map outcomes_of parts = e in cc) in
    let rest : map (λ (x : Outcomes). x.list.items) os ≡ map outcomes_of parts = (let z : o.list.items ∷ map (λ (x : Outcomes). x.list.items) os ≡ outcomes_of ps ∷ map outcomes_of parts = e in cc) in
    (subst (λ (l : List Outcome). EachTells origin set (commands_of ps) l) first t.0, parts_tell origin set parts os rest t.1)

chosen : (zone : ℕ) (origin : Name) (set : ℕ → Version) (p : Part) → PartsTell origin set (cond (eqb zone zone) (p ∷ []) []) → PartsTell origin set (p ∷ [])
chosen zone origin set p t = subst (λ (b : Bool). PartsTell origin set (cond b (p ∷ []) [])) (eq-eqb zone zone refl) t

-- ---- of all

module _ (zones : List Zone) (set : ℕ → ℕ → Version) (attached : ℕ → ℕ → Bool) where
  abbrev Origins : List Name
  Origins = origins_of zones

  -- of each zone, a worker's parts tell what is so
  abbrev ZonesTell : List Command → List CommandEnd → Type 0
  ZonesTell cs ds = (number : ℕ) (zone : Zone) → slice_get zones number ≡ Some zone → PartsTell zone.origin (set number) (parts_in number cs ds)

  zone_of : (number : ℕ) → number < length Origins → (zone : Zone) × (slice_get zones number ≡ Some zone)
  zone_of number lt = get_in zones number (subst (λ (n : ℕ). number < n) (length-map zones (λ z. z.origin)) lt)

  answer_tells : (name : Name) (rtype table : ℕ) (a : Answer) (k : ℕ) → a.zone ≡ k → zone_for (attached table) Origins name ≡ Some k → ((number : ℕ) (zone : Zone) → slice_get zones number ≡ Some zone → PartsTell zone.origin (set number) (part_in number (model.Get name rtype) (done.Got table (Some a)))) → AnswerTells zones set name rtype (Some a)
  answer_tells name rtype table a k same is tells =
      let n = for_some (attached table) Origins name k is in
      let lt : a.zone < length Origins = subst (λ (m : ℕ). m < length Origins) (sym same) (slice_get_within Origins k n.origin n.there) in
      let z = zone_of a.zone lt in
      let t = chosen a.zone z.0.origin (set a.zone) (record { command = jobs.Ask (question.Get name rtype); outcome = a.outcome }) (tells a.zone z.0 z.1) in
      let there = subst (λ (x : Zone). EachTells x.origin (set a.zone) (jobs.Ask (question.Get name rtype) ∷ []) (a.outcome ∷ [])) (sym (get_or_from_slice_get zones a.zone z.0 no_zone z.1)) t in
      there.0

  got_tells : (name : Name) (rtype table : ℕ) (answer : Option Answer) → option_map (λ (s : model_outcomes.Shown). s.zone) (option_map shown_view answer) ≡ zone_for (attached table) Origins name
      → ((number : ℕ) (zone : Zone) → slice_get zones number ≡ Some zone → PartsTell zone.origin (set number) (part_in number (model.Get name rtype) (done.Got table answer))) → AnswerTells zones set name rtype answer
  got_tells name rtype table None is tells = tt
  got_tells name rtype table (Some a) is tells = answer_tells name rtype table a a.zone refl (sym is) tells

  block_tells : (changed : ℕ) (c : jobs.Command) (o : Outcome) → changed < length Origins → ((number : ℕ) (zone : Zone) → slice_get zones number ≡ Some zone → PartsTell zone.origin (set number) (cond (eqb changed number) (record { command = c; outcome = o } ∷ []) []))
      → (zone : Zone) × EachTells zone.origin (set changed) (c ∷ []) (o ∷ [])
  block_tells changed c o lt tells =
      let z = zone_of changed lt in
      (z.0, chosen changed z.0.origin (set changed) (record { command = c; outcome = o }) (tells changed z.0 z.1))

  done_tells : (seen : ℕ) (c : Command) (d : CommandEnd) → IsOf c d → IsSaid Origins c → model_outcomes.EndsAtTable Origins attached seen (done_view c d) → ((number : ℕ) (zone : Zone) → slice_get zones number ≡ Some zone → PartsTell zone.origin (set number) (part_in number c d)) → CommandEndTells zones set c d
  done_tells seen (model.Get name rtype) (done.Got table answer) is said ends tells = got_tells name rtype table answer ends.1 tells
  done_tells seen (model.Block zone w asked ending) (done.Ran ran o) is said ends tells = let b = block_tells zone (jobs.Block w asked ending) o said.0 tells in b.1.0
  done_tells seen (model.Get name rtype) (done.Ran ran o) is said ends tells = tt
  done_tells seen (model.Get name rtype) (done.Attached table refused) is said ends tells = tt
  done_tells seen (model.Get name rtype) (done.Detached table refused) is said ends tells = tt
  done_tells seen (model.Block zone w asked ending) (done.Got table answer) is said ends tells = tt
  done_tells seen (model.Block zone w asked ending) (done.Attached table refused) is said ends tells = tt
  done_tells seen (model.Block zone w asked ending) (done.Detached table refused) is said ends tells = tt
  done_tells seen (model.Attach zone) d is said ends tells = tt
  done_tells seen (model.Detach zone) d is said ends tells = tt

  worker_tells : (seen : ℕ) (cs : List Command) (ds : List CommandEnd) → AreOf cs ds → AllByRecursion (IsSaid Origins) cs → model_outcomes.Along Origins attached seen (dones_view cs ds) → ZonesTell cs ds → WorkerTells zones set cs ds
  worker_tells seen [] ds are said along tells = tt
  worker_tells seen (c ∷ cs) [] are said along tells = tt
  worker_tells seen (c ∷ cs) (d ∷ ds) are said along tells = (
    done_tells seen c d are.0 said.0 along.0 (λ number zone there. tells_first zone.origin (set number) (part_in number c d) (parts_in number cs ds) (tells number zone there)),
    worker_tells (model_outcomes.seen_after seen (model_outcomes.table_told (done_view c d))) cs ds are.1 said.1 along.1 (λ number zone there. tells_rest zone.origin (set number) (part_in number c d) (parts_in number cs ds) (tells number zone there)),
  )

  pub workers_tell : (ws : List (List Command)) (ds : List CommandEnds) → AllAreOf ws ds → AllByRecursion (AllByRecursion (IsSaid Origins)) ws → AllByRecursion (model_outcomes.Along Origins attached 0) (all_dones_view ws ds)
      → ((number : ℕ) (zone : Zone) → slice_get zones number ≡ Some zone → AllByRecursion (PartsTell zone.origin (set number)) (all_parts number ws ds)) → WorkersTell zones set ws ds
  workers_tell [] ds are said along tells = tt
  workers_tell (w ∷ ws) [] are said along tells = tt
  workers_tell (w ∷ ws) (d ∷ ds) are said along tells = (
    worker_tells 0 w d.list.items are.0 said.0 along.0 (λ number zone there. let t = tells number zone there in t.0),
    workers_tell ws ds are.1 said.1 along.1 (λ number zone there. let t = tells number zone there in t.1),
  )
