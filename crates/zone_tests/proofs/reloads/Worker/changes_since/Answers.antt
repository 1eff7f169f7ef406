use Rattle.zone_tests.proofs.ReloadLaws.{shows_held}
use Rattle.zone_tests.proofs.reloads.Worker.changes_since.Goals as goal

pub operations_to-requires-clause-next_shown : goal.operations_to-requires-clause-next_shown
operations_to-requires-clause-next_shown g c = shows_held _ _ c.query-current.ensures.reads.holds c.query-current.ensures.pinned.good
