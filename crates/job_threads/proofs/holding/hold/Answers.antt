use Rattle.std.proofs.Common.{sym, subst}
use Rattle.qp_multi.specs.Passes.{known_at}
use Rattle.job_commands.specs.WorkerPasses.{IsHeld}
use Rattle.job_threads.proofs.SnapshotLaws.{held_first, held_same}
use Rattle.job_threads.proofs.holding.hold.Goals as goal

pub returns-clause-held : goal.returns-clause-held
returns-clause-held g c =
    subst (λ x. IsHeld x.seat) (sym c.version-version.ensures.same)
    (held_same c.hold-snapshot.result.seat c.note-seen-2.new.self.seat c.note-seen-2.ensures.same
    (held_first (known_at c.learn.new.self.seat) c.hold-snapshot.result.seat c.hold-snapshot.ensures.pinned c.hold-snapshot.ensures.reads.holds))
