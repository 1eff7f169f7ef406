use Rattle.std.specs.Option.{option_map}
use Rattle.job_threads.proofs.WorkerPassesLaws.{held_there}
use Rattle.job_threads.proofs.passes.take_second.Goals as goal

pub release-second-requires : goal.release-second-requires
release-second-requires g c = held_there (λ h. h.seat) (option_map (λ p. p.seat) c.args.passes.now.spare) c.args.passes.now.held c.in-Some.snapshot c.in-Some.ensures.value c.requires.placed
