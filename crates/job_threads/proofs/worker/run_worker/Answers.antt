use Rattle.std.proofs.Common.{rules, false, ◌≡◌, ◌∙◌, ◌≤◌, ◌<◌, ◌+◌, ℕ, List, [], ◌∷◌, Some, length, length-append, take, map, refl, sym, ap, subst, arith}
use Rattle.std.specs.Prelude.{slice_get}
use Rattle.std.proofs.lemmas.List.{take_all, length-map}
use Rattle.std.proofs.lemmas.Option.{get_or_from_slice_get, slice_get_within}
use Rattle.std.specs.Option.{option_map, is_some}
use Rattle.job_script.specs.Views.{command_view}
use Rattle.job_report.specs.declared.outcomes.Outcome.{Outcome}
use Rattle.report_laws.specs.Changes.{AllAsked}
use Rattle.qp_multi.specs.Passes.{known_at}
use Rattle.job_commands.specs.Calls.{After, Before, IsHeard, next_number}
use Rattle.job_commands.specs.WorkerPasses.{worker_passes}
use Rattle.job_commands.specs.Works.{ended}
use Rattle.job_commands.proofs.ShowLaws.{seat_told}
use Rattle.job_commands.proofs.CallLaws.{one_more}
use Rattle.crew.proofs.CallLaws.{same_told}
use Rattle.job_commands.proofs.WorkLaws.{WorkerAt, worker_back, worker_starts, worker_ran}
use Rattle.job_threads.proofs.WorkerLaws.{worker_next, turn_here, turn_next, said_here}
use Rattle.job_threads.proofs.worker.run_worker.Goals as goal

pub loop-place-init : goal.loop-place-init
loop-place-init g c = let ready = c.requires.ready in record {
  can = record {
    at = record { here = ready.here.0; asks = ready.places.0; spare = ready.places.1; held = tt; placed = ready.here.1 };
    held = refl;
    opens = ready.opens;
  };
  gate = refl;
  number = refl;
  commands = refl;
  free = c.requires.fresh.0;
  told = c.requires.fresh.1;
  many = ap length c.in_ok-list.ensures.items;
  heard = λ place lt. absurd (omega arith);
  turn = c.requires.fresh.2.in_turn;
  said = c.requires.fresh.2.said;
  at = λ s numbers opened_with begins. subst (λ (os : List Outcome). WorkerAt s numbers (ended (known_at c.args.asks.seat) (known_at c.args.spare.seat)) [] (map command_view c.args.turnstile.now.commands.now) os) (sym c.in_ok-list.ensures.items)
      (worker_starts s numbers (known_at c.args.asks.seat) (known_at c.args.spare.seat) (map command_view c.args.turnstile.now.commands.now) begins c.requires.fresh.2.in_turn);
}

pub enter-entered-requires-clause-free : goal.enter-entered-requires-clause-free
enter-entered-requires-clause-free g c = λ κs bounds. (c.loop-place.invariant.free, subst (λ l. c.loop-place.place < length l.now) (sym c.loop-place.invariant.commands) (omega (arith, c.loop-place-test.true, c.count-count.ensures)))

pub run_command-requires-clause-may : goal.run_command-requires-clause-may
run_command-requires-clause-may g c =
    let i = c.loop-place.invariant in
    let commands = c.args.turnstile.now.commands.now in
    let here = c.enter-entered.result.command.now in
    let there = subst (λ l. slice_get l.now c.loop-place.place ≡ Some here) i.commands c.enter-entered.ensures.command in
    (turn_here (is_some (option_map (λ s. s.seat) c.loop-place.passes.held)) commands c.loop-place.place here (slice_get_within commands c.loop-place.place here there) (sym (get_or_from_slice_get commands c.loop-place.place here here there)) i.turn).0

pub run_command-requires-clause-said : goal.run_command-requires-clause-said
run_command-requires-clause-said g c =
    let i = c.loop-place.invariant in
    let commands = c.args.turnstile.now.commands.now in
    let here = c.enter-entered.result.command.now in
    let there = subst (λ l. slice_get l.now c.loop-place.place ≡ Some here) i.commands c.enter-entered.ensures.command in
    (said_here (AllAsked c.args.origin.now) commands c.loop-place.place here (slice_get_within commands c.loop-place.place here there) (sym (get_or_from_slice_get commands c.loop-place.place here here there)) i.said).0

pub leave-requires-clause-done : goal.leave-requires-clause-done
leave-requires-clause-done g c =
    let i = c.loop-place.invariant in
    let many = ap length c.in_ok-push.ensures.items ∙ length-append c.loop-place.list.items (c.in_ok-outcome.outcome ∷ []) in
    let told = c.enter-entered.ensures.same.3 in
    omega (arith, many, told, i.told, i.many)

pub loop-place-preserved : goal.loop-place-preserved
loop-place-preserved g c =
    let i = c.loop-place.invariant in
    let can = c.in_ok-outcome.ensures.can in
    let commands = c.args.turnstile.now.commands.now in
    let place = c.loop-place.place in
    let here = c.enter-entered.result.command.now in
    let there = subst (λ l. slice_get l.now place ≡ Some here) i.commands c.enter-entered.ensures.command in
    let lt = slice_get_within commands place here there in
    let is = sym (get_or_from_slice_get commands place here here there) in
    let inside = c.enter-entered.ensures.same in
    let left = c.leave.ensures.same in
    let many = ap length c.in_ok-push.ensures.items ∙ length-append c.loop-place.list.items (c.in_ok-outcome.outcome ∷ []) ∙ ap (λ (n : ℕ). n + 1) i.many in
    let before = same_told (g.G.Gate.hears) (λ n. Before n (next_number place)) _ _ _ _ (ap (λ r. r.now) i.gate) i.number c.enter-entered.ensures.heard in
    let after = same_told (g.G.Gate.hears) (λ n. After n (next_number place)) _ _ _ _ (ap (λ r. r.now) (inside.0 ∙ i.gate)) (inside.1 ∙ i.number) (c.leave.ensures.heard place c.enter-entered.ensures.entered) in
    record {
      can = record { at = can.at; held = refl; opens = can.opens };
      gate = left.0 ∙ inside.0 ∙ i.gate;
      number = left.1 ∙ inside.1 ∙ i.number;
      commands = left.2 ∙ inside.2 ∙ i.commands;
      free = c.leave.ensures.left.0;
      told = c.leave.ensures.left.1 ∙ many;
      many = many;
      heard = one_more (λ k. IsHeard (g.G.Gate.hears c.args.turnstile.now.gate.now) c.args.turnstile.now.worker (next_number k)) place (place + 1) refl i.heard (before, after);
      turn = turn_next (is_some (option_map (λ h. h.seat) c.loop-place.passes.held)) (is_some (option_map (λ h. h.seat) c.run_command.new.passes.held)) commands place here lt is can.held i.turn;
      said = (said_here (AllAsked c.args.origin.now) commands place here lt is i.said).1;
      at = λ s numbers opened_with begins.
          let w = i.at s numbers opened_with begins in
          let was = c.loop-place.passes in
          let now = c.run_command.new.passes in
          let old = worker_passes was.asks.seat (option_map (λ p. p.seat) was.spare) (option_map (λ h. h.seat) was.held) in
          let new = worker_passes now.asks.seat (option_map (λ p. p.seat) now.spare) (option_map (λ h. h.seat) now.held) in
          let step = c.in_ok-outcome.ensures.steps s (record { index = opened_with.index; opening = w.work.opened }) w.under in
          worker_next s numbers old new commands place here c.loop-place.list.items c.in_ok-outcome.outcome c.push.new.self.items lt is c.in_ok-push.ensures.items (seat_told c.loop-place.passes.asks.seat i.can.at.here) w step;
    }

pub returns-clause-ran : goal.returns-clause-ran
returns-clause-ran g c = λ s numbers opened_with begins.
    let commands = c.args.turnstile.now.commands.now in
    let past : length commands ≤ c.loop-place.place = omega (arith, c.loop-place-test.false, c.count-count.ensures) in
    let w = c.loop-place.invariant.at s numbers opened_with begins in
    let passes = c.loop-place.passes in
    let at = worker_passes passes.asks.seat (option_map (λ p. p.seat) passes.spare) (option_map (λ h. h.seat) passes.held) in
    worker_back s numbers at (known_at c.second_pass-asks.result.0.seat) (known_at c.second_pass-asks.result.1.seat) false (map command_view commands) c.loop-place.list.items (ap (λ p. known_at p.seat) c.second_pass-asks.ensures.same) c.second_pass-asks.ensures.second.pass
    (worker_ran s numbers at (map command_view commands) (map command_view (take c.loop-place.place commands)) _ c.loop-place.list.items (ap (map command_view) (take_all c.loop-place.place commands past)) w)

pub returns-clause-heard : goal.returns-clause-heard
returns-clause-heard g c =
    let many = length-map c.args.turnstile.now.commands.now command_view in
    let past : length c.args.turnstile.now.commands.now ≤ c.loop-place.place = omega (arith, c.loop-place-test.false, c.count-count.ensures) in
    (λ place lt. c.loop-place.invariant.heard place (omega (arith, lt, many, past)), search rules, search rules)
