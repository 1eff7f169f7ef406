use Rattle.std.proofs.Common.{◌∙◌, sym}
use Rattle.zone_tests.proofs.ReloadLaws.{stored_rises}
use Rattle.zone_tests.proofs.reloads.run.Goals as goal

pub open-requires-clause-rising : goal.open-requires-clause-rising
open-requires-clause-rising g c = stored_rises _ c.requires.stored

pub workers-requires : goal.workers-requires
workers-requires g c k p l = let h = c.in-Ok.ensures.opens.passes.told k p l in (h.0, h.1 ∙ sym c.in-Ok.ensures.opens.place)
