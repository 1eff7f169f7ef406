use Rattle.std.proofs.Common.{rules, ◌≡◌, ◌∙◌, ◌-◌, ◌<◌, ◌≤◌, ℕ, List, [], ◌∷◌, Some, None, length, length-append, map, refl, sym, ap, subst, arith}
use Rattle.std.specs.Prelude.{slice_get}
use Rattle.std.proofs.lemmas.Option.{get_or_from_slice_get, slice_get_within}
use Rattle.job_script.specs.Views.{command_view}
use Rattle.job_report.specs.declared.outcomes.Outcome.{Outcome}
use Rattle.feed_core.specs.Feeds.{Takings}
use Rattle.feed_threads.specs.Feeds.{commands_at}
use Rattle.job_commands.specs.Works.{only}
use Rattle.std.specs.List.{AllByRecursion}
use Rattle.job_commands.specs.Calls.{After, Before, IsHeard, next_number}
use Rattle.crew.proofs.CallLaws.{same_told}
use Rattle.report_laws.specs.Changes.{AllAsked}
use Rattle.report_laws.proofs.ListLemmas.{all_push}
use Rattle.qp_multi.specs.Passes.{first_version, known_at}
use Rattle.job_commands.specs.Histories.{OpenedWith}
use Rattle.job_commands.specs.WorkerPasses.{worker_passes}
use Rattle.feed_threads.proofs.ServeLaws.{command_here, number_counted, plain_here, so_here, serve_starts, serve_next}
use Rattle.job_commands.proofs.ShowLaws.{seat_told}
use Rattle.job_commands.proofs.StepLaws.{under_itself}
use Rattle.job_commands.proofs.WorkLaws.{WorkerAt, worker_ran}
use Rattle.job_commands.proofs.ZoneLaws.{opens_still}
use Rattle.feed_threads.proofs.feeding.serve.Goals as goal

pub loop-number-init : goal.loop-number-init
loop-number-init g c =
    let ready = c.requires.ready in
    let none = c.new-numbers.ensures.items in
    let first = c.args.pass.seat in
    record {
      here = ready.here;
      place = ready.place;
      feed = ap (λ (t : Takings). t.feed) ready.seat;
      taken = ap (λ (t : Takings). t.taken) ready.seat ∙ sym none;
      alike = ap length none ∙ sym (ap length c.new-list.ensures.items);
      gate = refl;
      number = refl;
      commands = refl;
      free = c.requires.fresh.0;
      told = c.requires.fresh.1 ∙ sym (ap length c.new-list.ensures.items);
      heard = subst (AllByRecursion (IsHeard (g.G.Gate.hears c.args.turnstile.now.gate.now) c.args.turnstile.now.worker)) (sym none) tt;
      opens = ready.opens;
      at = λ s number opened_with new.
          subst (λ (l : List ℕ). WorkerAt s (only number) (worker_passes first (Some first) None) (commands_at (map command_view c.args.turnstile.now.commands.now) l) [] c.new-list.result.items) (sym none)
          (subst (λ (l : List Outcome). WorkerAt s (only number) (worker_passes first (Some first) None) [] [] l) (sym c.new-list.ensures.items) (serve_starts s number first new));
    }

pub enter-entered-requires-clause-free : goal.enter-entered-requires-clause-free
enter-entered-requires-clause-free g c =
    let inside : c.in-Some.number - 1 < length c.args.turnstile.now.commands.now = search (rules, c.requires.fresh.2.count) in
    λ κs bounds. (c.loop-number.invariant.free, subst (λ l. c.in-Some.number - 1 < length l.now) (sym c.loop-number.invariant.commands) inside)

pub run_alone-requires-clause-may : goal.run_alone-requires-clause-may
run_alone-requires-clause-may g c =
    let commands = c.args.turnstile.now.commands.now in
    let place = c.in-Some.number - 1 in
    let here = c.enter-entered.result.command.now in
    let there = subst (λ l. slice_get l.now place ≡ Some here) c.loop-number.invariant.commands c.enter-entered.ensures.command in
    let inside = slice_get_within commands place here there in
    let is = sym (get_or_from_slice_get commands place here here there) in
    record {
      alone = plain_here commands c.in-Some.number here c.requires.fresh.2.no_snapshots inside is;
      opens = c.loop-number.invariant.opens;
      said = so_here (AllAsked c.args.origin.now) commands c.in-Some.number here c.requires.fresh.2.said inside is;
    }

pub leave-requires-clause-done : goal.leave-requires-clause-done
leave-requires-clause-done g c =
    let i = c.loop-number.invariant in
    let many = ap length c.in_ok-push-2.ensures.items ∙ length-append c.loop-number.list.items (c.in_ok-outcome.outcome ∷ []) in
    let told = c.enter-entered.ensures.same.3 in
    omega (arith, many, told, i.told)

pub loop-number-preserved : goal.loop-number-preserved
loop-number-preserved g c =
    let i = c.loop-number.invariant in
    let commands = c.args.turnstile.now.commands.now in
    let place = c.in-Some.number - 1 in
    let here = c.enter-entered.result.command.now in
    let there = subst (λ l. slice_get l.now place ≡ Some here) i.commands c.enter-entered.ensures.command in
    let lt = slice_get_within commands place here there in
    let is = sym (get_or_from_slice_get commands place here here there) in
    let entered = c.enter-entered.ensures.same in
    let left = c.leave.ensures.same in
    let some : 0 < c.in-Some.number = search rules in
    let few : c.in-Some.number ≤ 4294967295 = search rules in
    let counted = number_counted c.in-Some.number some few in
    let before = same_told (g.G.Gate.hears) (λ n. Before n (next_number place)) _ _ _ _ (ap (λ r. r.now) i.gate) i.number c.enter-entered.ensures.heard in
    let after = same_told (g.G.Gate.hears) (λ n. After n (next_number place)) _ _ _ _ (ap (λ r. r.now) (entered.0 ∙ i.gate)) (entered.1 ∙ i.number) (c.leave.ensures.heard place c.enter-entered.ensures.entered) in
    let told = subst (IsHeard (g.G.Gate.hears c.args.turnstile.now.gate.now) c.args.turnstile.now.worker) counted (before, after) in
    let first = c.args.pass.seat in
    record {
      here = c.in_ok-outcome.ensures.pass.here;
      place = c.in_ok-outcome.ensures.pass.place ∙ i.place;
      feed = search rules;
      taken = search rules;
      alike = search rules;
      gate = left.0 ∙ entered.0 ∙ i.gate;
      number = left.1 ∙ entered.1 ∙ i.number;
      commands = left.2 ∙ entered.2 ∙ i.commands;
      free = c.leave.ensures.left.0;
      told = c.leave.ensures.left.1;
      heard = subst (AllByRecursion (IsHeard (g.G.Gate.hears c.args.turnstile.now.gate.now) c.args.turnstile.now.worker)) (sym c.in_ok-push.ensures.items)
          (all_push (IsHeard (g.G.Gate.hears c.args.turnstile.now.gate.now) c.args.turnstile.now.worker) c.loop-number.numbers.items c.in-Some.number i.heard told);
      opens =
          let seat = c.loop-number.pass.seat in
          let s : OpenedWith = record { chunks = c.args.index.now.shared.table.shared.key.chunks; passes = c.args.index.now.shared.table.shared.key.passes; origin = c.args.origin.now; opening = first_version (known_at seat).seen } in
          let step = c.in_ok-outcome.ensures.steps s (record { index = record { origin_is = refl; chunks = refl; passes = refl }; opening = refl }) (Some seat) None i.here (under_itself (known_at seat)) in
          opens_still c.args.origin.now (known_at seat) (known_at c.run_alone.new.pass.seat) (seat_told seat i.here) step.asks i.opens;
      at = λ s number opened_with new.
          let w = i.at s number opened_with new in
          let step = c.in_ok-outcome.ensures.steps s (record { index = opened_with.index; opening = w.work.opened }) (Some first) None c.requires.ready.here w.under in
          serve_next s (only number) c.loop-number.pass.seat c.run_alone.new.pass.seat first (map command_view commands) c.loop-number.numbers.items c.push.new.self.items c.in-Some.number (command_view here) c.loop-number.list.items c.push-in-Some.new.self.items c.in_ok-outcome.outcome
          (seat_told c.loop-number.pass.seat i.here) (command_here commands c.in-Some.number here lt is) (plain_here commands c.in-Some.number here c.requires.fresh.2.no_snapshots lt is)
          c.in_ok-push.ensures.items c.in_ok-push-2.ensures.items w step;
    }

pub returns-clause-ran : goal.returns-clause-ran
returns-clause-ran g c = λ s number opened_with new.
    let commands = commands_at (map command_view c.args.turnstile.now.commands.now) c.loop-number.numbers.items in
    worker_ran s (only number) (worker_passes c.loop-number.pass.seat (Some c.args.pass.seat) None) commands commands [] c.loop-number.list.items refl (c.loop-number.invariant.at s number opened_with new)
