use Rattle.std.proofs.Common.{map, ap, subst}
use Rattle.qp_multi.specs.Closings.{AreAll}
use Rattle.qp_multi.specs.Passes.{known_at}
use Rattle.job_commands.specs.Works.{AreNew}
use Rattle.job_commands.proofs.SittingLaws.{sits_down, two_popped}
use Rattle.job_threads.proofs.sitting.seat_worker.Goals as goal

pub returns-clause-sits : goal.returns-clause-sits
returns-clause-sits g c = λ s two new.
    let both = two_popped c.args.passes.items c.pop.new.self.items c.pop-2.new.self.items c.in-Some-Some.asks c.in-Some-Some.spare c.in-Some-Some.ensures.items c.in-Some-Some.ensures'.items c.requires.passes.count in
    let views = ap (map (λ p. known_at p.seat)) both in
    sits_down s (known_at c.in-Some-Some.spare.seat) (known_at c.in-Some-Some.asks.seat) two (subst (AreNew s.opening) views new) (subst (AreAll 2) views c.requires.passes.all)
