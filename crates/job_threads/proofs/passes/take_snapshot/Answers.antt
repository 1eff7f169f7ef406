use Rattle.std.specs.Option.{option_map}
use Rattle.job_threads.proofs.WorkerPassesLaws.{hold_from}
use Rattle.job_threads.proofs.passes.take_snapshot.Goals as goal

pub returns-clause-steps : goal.returns-clause-steps
returns-clause-steps g c = λ s opened under.
    hold_from s c.hold-snapshot.result.1 c.args.passes.now.asks.seat c.requires.free.at.here opened (λ p. p.seat) (option_map (λ h. h.seat) c.args.passes.now.held) c.hold-snapshot.new.pass.seat c.hold-snapshot.result.0.seat c.hold-snapshot.ensures.held
    c.args.passes.now.spare c.in-Some.second c.in-Some.ensures.value c.requires.free.at.placed under c.hold-snapshot.ensures.told c.take.new.self c.take.ensures.after
