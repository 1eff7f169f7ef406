use Rattle.std.proofs.Common.{sym, subst}
use Rattle.std.specs.Option.{option_map}
use Rattle.job_threads.specs.Snapshots.{AskedHeld}
use Rattle.job_threads.proofs.WorkerPassesLaws.{held_there, held_from}
use Rattle.job_threads.proofs.passes.ask_snapshot.Goals as goal

pub ask_held-requires : goal.ask_held-requires
ask_held-requires g c = held_there (λ h. h.seat) (option_map (λ p. p.seat) c.args.passes.now.spare) c.args.passes.now.held c.in-Some.snapshot c.in-Some.ensures.value c.requires.placed

pub returns-clause-steps : goal.returns-clause-steps
returns-clause-steps g c = λ s same opened under.
    held_from s c.in_ok-outcome.outcome c.args.passes.now.asks.seat c.requires.here opened (λ h. h.seat) (option_map (λ p. p.seat) c.args.passes.now.spare) c.args.passes.now.held c.in-Some.snapshot c.in-Some.ensures.value c.requires.placed under
    c.args.question.now (subst (λ o. AskedHeld o c.args.question.now c.in-Some.snapshot.seat c.in_ok-outcome.outcome) (sym same) c.in_ok-outcome.ensures.asked)
