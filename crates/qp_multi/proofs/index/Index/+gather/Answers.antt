use Rattle.std.proofs.Common.{◌∙◌, ◌∷◌, [], ap, map}
use Rattle.std.proofs.lemmas.List.{map-append}
use Rattle.qp_multi.specs.Passes.{known_at}
use Rattle.qp_multi.proofs.CloseLaws.{gathers_found}
use Rattle.qp_multi.proofs.index.Index.+gather.Goals as goal

pub returns-clause-gathers : goal.returns-clause-gathers
returns-clause-gathers g t c =
    let e = c.gather-first.ensures.gathers in
    let a = c.account.ensures.accounted in (
      e.0,
      gathers_found _ _ _ (known_at c.gather-first.result.0.seat) _ (known_at c.in-Some.pass.seat) _ _ _ _ _ _ _ e.0 a.0
          c.learn.ensures.learnt c.note-seen.ensures.told e.1 c.learn-2.ensures.learnt c.note-seen.ensures.same c.note-last.ensures.told a.1 c.note-last.ensures.same
          (ap (map (λ p. known_at p.seat)) c.in-Some.ensures.items ∙ map-append (λ p. known_at p.seat) c.pop.new.self.items (c.in-Some.pass ∷ [])),
    )
