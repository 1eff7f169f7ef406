use Rattle.std.proofs.Common.{◌∙◌, sym}
use Rattle.index_tests.proofs.scenes.run.Goals as goal

pub workers-requires : goal.workers-requires
workers-requires g c k p l = let h = c.in-Ok.ensures.opens.passes.told k p l in (h.0, h.1 ∙ sym c.in-Ok.ensures.opens.place)
