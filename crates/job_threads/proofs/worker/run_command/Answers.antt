use Rattle.std.proofs.Common.{rules, ◌∙◌, Some, None, refl, sym, subst}
use Rattle.std.specs.Option.{option_map}
use Rattle.job_model.specs.Commands.{AskHeld}
use Rattle.qp_multi.specs.Passes.{first_version, known_at}
use Rattle.job_commands.specs.Histories.{OpenedWith}
use Rattle.job_commands.specs.Steps.{Step}
use Rattle.job_commands.specs.WorkerPasses.{worker_passes}
use Rattle.job_commands.proofs.ShowLaws.{seat_told}
use Rattle.job_commands.proofs.WorkerPassesLaws.{step_is}
use Rattle.job_commands.proofs.StepLaws.{under_itself}
use Rattle.job_commands.proofs.ZoneLaws.{opens_still}
use Rattle.job_threads.proofs.worker.run_command.Goals as goal

pub returns-in-Hold-clause-steps : goal.returns-in-Hold-clause-steps
returns-in-Hold-clause-steps g c = λ s opened_with under. step_is s c.take_snapshot.result _ _ c.args.entered.command.now _ (sym c.command.ensures ∙ c.in-Hold.is) (c.take_snapshot.ensures.steps s opened_with.opening under)

pub returns-in-Hold-clause-can : goal.returns-in-Hold-clause-can
returns-in-Hold-clause-can g c = record {
  at = c.take_snapshot.ensures.taken.at;
  held = search rules;
  opens = opens_still c.args.origin.now (known_at c.args.passes.now.asks.seat) (known_at c.take_snapshot.new.passes.asks.seat) (seat_told c.args.passes.now.asks.seat c.requires.can.at.here) c.take_snapshot.ensures.grows c.requires.can.opens;
}

pub returns-in_ok-outcome-in-Ask-clause-can : goal.returns-in_ok-outcome-in-Ask-clause-can
returns-in_ok-outcome-in-Ask-clause-can g c =
    let seat = c.args.passes.now.asks.seat in
    let s : OpenedWith = record { chunks = c.args.index.now.shared.table.shared.key.chunks; passes = c.args.index.now.shared.table.shared.key.passes; origin = c.args.origin.now; opening = first_version (known_at seat).seen } in
    let step = c.in_ok-outcome-in-Ask.ensures.steps s (record { index = record { origin_is = refl; chunks = refl; passes = refl }; opening = refl }) (Some seat) None c.requires.can.at.here (under_itself (known_at seat)) in
    record {
      at = search rules;
      held = search rules;
      opens = opens_still c.args.origin.now (known_at seat) (known_at c.run_alone.new.pass.seat) (seat_told seat c.requires.can.at.here) step.asks c.requires.can.opens;
    }

pub returns-in_ok-outcome-in-AskHeld-clause-steps : goal.returns-in_ok-outcome-in-AskHeld-clause-steps
returns-in_ok-outcome-in-AskHeld-clause-steps g c = λ s opened_with under.
    step_is s c.in_ok-outcome-in-AskHeld.outcome _ _ c.args.entered.command.now _ (sym c.command.ensures ∙ c.in-AskHeld.is)
    (subst (λ p. Step s (AskHeld c.in-AskHeld.question) c.in_ok-outcome-in-AskHeld.outcome (worker_passes c.args.passes.now.asks.seat (option_map (λ p. p.seat) c.args.passes.now.spare) (option_map (λ h. h.seat) c.args.passes.now.held)) (worker_passes p.asks.seat (option_map (λ p. p.seat) p.spare) (option_map (λ h. h.seat) p.held))) (sym c.in_ok-outcome-in-AskHeld.ensures.same)
    (c.in_ok-outcome-in-AskHeld.ensures.steps s opened_with.index.origin_is opened_with.opening under))

pub returns-in-Release-clause-steps : goal.returns-in-Release-clause-steps
returns-in-Release-clause-steps g c = λ s opened_with under. step_is s c.give_back.result _ _ c.args.entered.command.now _ (sym c.command.ensures ∙ c.in-Release.is) (c.give_back.ensures.steps s opened_with.opening under)

pub returns-in_ok-outcome-in-Ask-clause-steps : goal.returns-in_ok-outcome-in-Ask-clause-steps
returns-in_ok-outcome-in-Ask-clause-steps g c = λ s opened_with under.
    c.in_ok-outcome-in-Ask.ensures.steps s opened_with (option_map (λ p. p.seat) c.args.passes.now.spare) (option_map (λ h. h.seat) c.args.passes.now.held) c.requires.can.at.placed under
