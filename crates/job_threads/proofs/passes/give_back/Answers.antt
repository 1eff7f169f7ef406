use Rattle.std.specs.Option.{option_map}
use Rattle.job_threads.proofs.WorkerPassesLaws.{held_there, release_from}
use Rattle.job_threads.proofs.passes.give_back.Goals as goal

pub release-second-requires : goal.release-second-requires
release-second-requires g c = held_there (λ h. h.seat) (option_map (λ p. p.seat) c.args.passes.now.spare) c.args.passes.now.held c.in-Some.snapshot c.in-Some.ensures.value c.requires.taken.at.placed

pub returns-clause-steps : goal.returns-clause-steps
returns-clause-steps g c = λ s opened under.
    release_from s c.release-second.result.1 c.args.passes.now.asks.seat c.requires.taken.at.here opened (λ h. h.seat) (option_map (λ p. p.seat) c.args.passes.now.spare) c.args.passes.now.held c.in-Some.snapshot c.in-Some.ensures.value c.requires.taken.at.placed under
    c.release-second.result.0.seat c.release-second.ensures.released c.take.new.self c.take.ensures.after
