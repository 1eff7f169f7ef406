use Rattle.std.proofs.Common.{subst, sym}
use Rattle.shared_cells.specs.Views.{pinned_image}
use Rattle.qp_multi.specs.Meanings.{Holds}
use Rattle.zone_answer.specs.Standing.{ShowsSome}
use Rattle.zone_tests.proofs.ReloadLaws.{shows_held}
use Rattle.zone_tests.proofs.reloads.Worker.sees.Goals as goal

pub is_whole-requires : goal.is_whole-requires
is_whole-requires g c =
    subst (λ q. ShowsSome (Holds (pinned_image q.seat.place.me.0.progress) q.seat.root)) (sym c.version-version.ensures.same)
    (shows_held _ _ c.query-query.ensures.reads.holds c.query-query.ensures.pinned.good)
