use Rattle.std.proofs.Common.{◌≡◌, ◌∙◌, IsSome, sym}
use Rattle.index_tests.proofs.LastLaws.{but_last}
use Rattle.index_tests.proofs.scenes.close.Goals as goal

pub close-requires : goal.close-requires
close-requires g c = record {
  here = but_last (λ p. (IsSome p.seat) × (p.place ≡ c.in-Ok.index.place)) c.in-Ok.passes.items c.pop.new.self.items _
      (λ k p l. let h = c.in-Ok.ensures.opens.passes.told k p l in (h.0, h.1 ∙ sym c.in-Ok.ensures.opens.place)) c.pop.ensures.rest;
}
