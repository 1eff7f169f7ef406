-- How a worker's run over several zones goes on by one command.
use Rattle.std.proofs.Common.{◌≡◌, ◌∙◌, ℕ, ◌<◌, Bool, true, false, cond, eqb, List, [], ◌∷◌, ◌++◌, length, Option, Some, None, refl, sym, ap, subst, arith, append_assoc, append-nil}
use Rattle.std.specs.List.{AllByRecursion}
use Rattle.std.proofs.lemmas.List.{map-append}
use Rattle.std.proofs.lemmas.Option.{slice_get_within}
use Rattle.zone_model.specs.Names.{Name}
use Rattle.job_model.specs.Commands as jobs
use Rattle.job_model.specs.declared.Question.TheVariants as question
use Rattle.job_model.specs.Commands.{NeedsNoSnapshot}
use Rattle.job_report.specs.declared.outcomes.Outcome.{Outcome}
use Rattle.shared_cells.specs.Views.{is_told}
use Rattle.shared_cells.specs.History.{IsPartOf}
use Rattle.qp_multi.specs.declared.meaning.Named.{Ghosts}
use Rattle.qp_multi.specs.Passes.{Known, first_version}
use Rattle.job_commands.specs.Histories.{OpenedWith}
use Rattle.job_commands.specs.Commands.{IsOpenedWith}
use Rattle.job_commands.specs.Works.{only, IsNew, ended}
use Rattle.job_commands.specs.Steps.{WorkerPasses}
use Rattle.job_commands.proofs.HistoryLaws.{part_same}
use Rattle.job_commands.proofs.StepLaws.{under_itself}
use Rattle.job_commands.proofs.WorkLaws.{WorkerAt, plain_goes_on, worker_starts, worker_ran}
use Rattle.job_commands.proofs.ZoneLaws.{opens_still}
use Rattle.zones_model.specs.Commands as model
use Rattle.zones_model.specs.Commands.{Command}
use Rattle.zones_model.specs.Outcomes as model_outcomes
use Rattle.zone_table.specs.declared.zones.Zones.{Zones}
use Rattle.zone_table.specs.declared.pass.ZonesPass.{ZonesPass}
use Rattle.zone_table.specs.Passes.{IsPassOf, zone_known}
use Rattle.zones_report.specs.declared.outcomes.Answer.{Answer}
use Rattle.zones_report.specs.declared.outcomes.CommandEnd.{CommandEnd}
use Rattle.zones_report.specs.declared.outcomes.CommandEnd.TheVariants as done
use Rattle.zones_threads.specs.Sites.{Site, IsSite, Opens}
use Rattle.zones_threads.specs.Steps.{Steps, ZonesGo}
use Rattle.zones_report.specs.Outcomes.{AreOf, IsOf, done_view, dones_view}
use Rattle.zones_threads.specs.Views.{Part, answer_part, part_in, parts_in, commands_of, outcomes_of}
use Rattle.zones_threads.specs.Works.{ZonesRan}
use Rattle.zone_table.proofs.PassLaws.{zone_told}

-- ---- lists that grow

pub parts-push : (zone : ℕ) (cs : List Command) (ds : List CommandEnd) (c : Command) (d : CommandEnd) → length cs ≡ length ds → parts_in zone (cs ++ c ∷ []) (ds ++ d ∷ []) ≡ parts_in zone cs ds ++ part_in zone c d
parts-push zone [] [] c d e = append-nil (part_in zone c d)
parts-push zone [] (y ∷ ds) c d e = absurd (omega arith)
parts-push zone (x ∷ cs) [] c d e = absurd (omega arith)
parts-push zone (x ∷ cs) (y ∷ ds) c d e =
    ap (λ (ps : List Part). part_in zone x y ++ ps) (parts-push zone cs ds c d (omega arith)) ∙ sym (append_assoc (part_in zone x y) (parts_in zone cs ds) (part_in zone c d))

pub dones-push : (cs : List Command) (ds : List CommandEnd) (c : Command) (d : CommandEnd) → length cs ≡ length ds → dones_view (cs ++ c ∷ []) (ds ++ d ∷ []) ≡ dones_view cs ds ++ done_view c d ∷ []
dones-push [] [] c d e = refl
dones-push [] (y ∷ ds) c d e = absurd (omega arith)
dones-push (x ∷ cs) [] c d e = absurd (omega arith)
dones-push (x ∷ cs) (y ∷ ds) c d e = ap (λ (l : List model_outcomes.CommandEnd). done_view x y ∷ l) (dones-push cs ds c d (omega arith))

pub kinds-push : (cs : List Command) (ds : List CommandEnd) (c : Command) (d : CommandEnd) → AreOf cs ds → IsOf c d → AreOf (cs ++ c ∷ []) (ds ++ d ∷ [])
kinds-push [] [] c d all one = (one, tt)
kinds-push [] (y ∷ ds) c d all one = absurd all
kinds-push (x ∷ cs) [] c d all one = absurd all
kinds-push (x ∷ cs) (y ∷ ds) c d all one = (all.0, kinds-push cs ds c d all.1 one)

pub kinds_many : (cs : List Command) (ds : List CommandEnd) → AreOf cs ds → length cs ≡ length ds
kinds_many [] [] all = refl
kinds_many [] (y ∷ ds) all = absurd all
kinds_many (x ∷ cs) [] all = absurd all
kinds_many (x ∷ cs) (y ∷ ds) all = (let more = kinds_many cs ds all.1 in omega (arith, more))

-- ---- what is of a zone needs no snapshot

abbrev IsPlain : Part → Type 0
IsPlain p = NeedsNoSnapshot p.command

plain_if : (b : Bool) (p : Part) → IsPlain p → AllByRecursion IsPlain (cond b (p ∷ []) [])
plain_if true p plain = (plain, tt)
plain_if false p plain = tt

plain_answer : (zone : ℕ) (name : Name) (rtype : ℕ) (answer : Option Answer) → AllByRecursion IsPlain (answer_part zone (question.Get name rtype) answer)
plain_answer zone name rtype None = tt
plain_answer zone name rtype (Some a) = plain_if (eqb a.zone zone) (record { command = jobs.Ask (question.Get name rtype); outcome = a.outcome }) tt

plain_part : (zone : ℕ) (c : Command) (d : CommandEnd) → AllByRecursion IsPlain (part_in zone c d)
plain_part zone (model.Get name rtype) (done.Got table answer) = plain_answer zone name rtype answer
plain_part zone (model.Block changed w asked ending) (done.Ran ran o) = plain_if (eqb changed zone) (record { command = jobs.Block w asked ending; outcome = o }) tt
plain_part zone (model.Get name rtype) (done.Ran ran o) = tt
plain_part zone (model.Get name rtype) (done.Attached table refused) = tt
plain_part zone (model.Get name rtype) (done.Detached table refused) = tt
plain_part zone (model.Block changed w asked ending) (done.Got table answer) = tt
plain_part zone (model.Block changed w asked ending) (done.Attached table refused) = tt
plain_part zone (model.Block changed w asked ending) (done.Detached table refused) = tt
plain_part zone (model.Attach changed) d = tt
plain_part zone (model.Detach changed) d = tt

-- ---- one zone

-- a worker of one zone that has come so far
abbrev IsAt : OpenedWith → ℕ → Known → Known → List Part → Type 0
IsAt s number v first parts = WorkerAt s (only number) (ended v first) (commands_of parts) [] (outcomes_of parts)

goes_on : (s : OpenedWith) (number : ℕ) (old new first : Known) (parts more : List Part) → is_told old.seen.opening ≡ true → AllByRecursion IsPlain more → IsAt s number old first parts → Steps s more (ended old first) (ended new first) → IsAt s number new first (parts ++ more)
goes_on s number old new first parts [] told plain w same =
    subst (IsAt s number new first) (sym (append-nil parts)) (subst (λ (t : WorkerPasses). WorkerAt s (only number) t (commands_of parts) [] (outcomes_of parts)) (sym same) w)
goes_on s number old new first parts (p ∷ q ∷ more) told plain w step = absurd step
goes_on s number old new first parts (p ∷ []) told plain w step =
    let next = plain_goes_on s (only number) (ended old first) (ended new first) (commands_of parts) p.command (outcomes_of parts) p.outcome told refl plain.0 w step in
    subst (λ (cs : List jobs.Command). WorkerAt s (only number) (ended new first) cs [] (outcomes_of (parts ++ p ∷ []))) (sym (map-append (λ (x : Part). x.command) parts (p ∷ [])))
    (subst (λ (os : List Outcome). WorkerAt s (only number) (ended new first) (commands_of parts ++ p.command ∷ []) [] os) (sym (map-append (λ (x : Part). x.outcome) parts (p ∷ []))) next)

-- what a zone's pass has seen grows
steps_grow : (s : OpenedWith) (parts : List Part) (old new : WorkerPasses) → is_told old.asks.seen.opening ≡ true → Steps s parts old new → IsPartOf new.asks.seen old.asks.seen
steps_grow s [] old new told same = subst (λ (t : WorkerPasses). IsPartOf t.asks.seen old.asks.seen) (sym same) (part_same old.asks.seen told)
steps_grow s (p ∷ []) old new told step = step.asks
steps_grow s (p ∷ q ∷ parts) old new told step = absurd step

-- ---- each zone

module _ {X Y : Type 0} {N : Ghosts Y} (zones : Zones X Y N) where
  -- of each zone, how far the worker has come
  abbrev pub ZonesAt : ZonesPass Y N → ZonesPass Y N → List Command → List CommandEnd → Type 0
  ZonesAt first now cs ds =
      (site : Site) → IsSite zones site → (s : OpenedWith) (number : ℕ) → IsOpenedWith s site.origin site.size (zone_known first site.number) → IsNew number s.opening (zone_known first site.number)
      → IsAt s number (zone_known now site.number) (zone_known first site.number) (parts_in site.number cs ds)

  inside : (site : Site) → IsSite zones site → site.number < length zones.origins.items
  inside site is = slice_get_within zones.origins.items site.number site.origin is.origin

  pub zones_start : (first : ZonesPass Y N) → ZonesAt first first [] []
  zones_start first = λ site is s number opened_with new. worker_starts s (only number) (zone_known first site.number) (zone_known first site.number) [] (record { asker = new; holder = new }) tt

  pub zones_next : (first now next : ZonesPass Y N) (cs : List Command) (ds : List CommandEnd) (c : Command) (d : CommandEnd) → IsPassOf zones.origins.items first → IsPassOf zones.origins.items now → length cs ≡ length ds → ZonesAt first now cs ds → ZonesGo zones c d now next
      → ZonesAt first next (cs ++ c ∷ []) (ds ++ d ∷ [])
  zones_next first now next cs ds c d is_first is_now many at go = λ site is s number opened_with new.
      let n = site.number in
      let w = at site is s number opened_with new in
      let told = zone_told zones.origins.items now is_now n (inside site is) in
      let told_first = zone_told zones.origins.items first is_first n (inside site is) in
      let steps = go site is s (record { index = opened_with.index; opening = w.work.opened }) (zone_known first n) told_first w.under in
      subst (IsAt s number (zone_known next n) (zone_known first n)) (sym (parts-push n cs ds c d many))
      (goes_on s number (zone_known now n) (zone_known next n) (zone_known first n) (parts_in n cs ds) (part_in n c d) told (plain_part n c d) w steps)

  pub zones_ran : (first now : ZonesPass Y N) (cs : List Command) (ds : List CommandEnd) → ZonesAt first now cs ds → ZonesRan zones first now cs ds
  zones_ran first now cs ds at = λ site is s number opened_with new.
      let n = site.number in
      let parts = parts_in n cs ds in
      worker_ran s (only number) (ended (zone_known now n) (zone_known first n)) (commands_of parts) (commands_of parts) [] (outcomes_of parts) refl (at site is s number opened_with new)

  -- a command leaves what is known of openings
  pub go_open : (old new : ZonesPass Y N) (c : Command) (d : CommandEnd) → IsPassOf zones.origins.items old → ZonesGo zones c d old new → Opens zones old → Opens zones new
  go_open old new c d is_old go opens = λ site is.
      let n = site.number in
      let told = zone_told zones.origins.items old is_old n (inside site is) in
      let s : OpenedWith = record { chunks = site.size.chunks; passes = site.size.passes; origin = site.origin; opening = first_version (zone_known old n).seen } in
      let steps = go site is s (record { index = record { origin_is = refl; chunks = refl; passes = refl }; opening = refl }) (zone_known old n) told (under_itself (zone_known old n)) in
      opens_still site.origin (zone_known old n) (zone_known new n) told (steps_grow s (part_in n c d) (ended (zone_known old n) (zone_known old n)) (ended (zone_known new n) (zone_known old n)) told steps) (opens site is)
