use Rattle.std.proofs.Common.{◌∙◌, ◌∷◌, [], length, sym, ap, map, arith, length-append}
use Rattle.std.proofs.lemmas.List.{map-append}
use Rattle.qp_multi.specs.Passes.{known_at}
use Rattle.qp_multi.proofs.CloseLaws.{ends}
use Rattle.qp_multi.proofs.index.Index.close.Goals as goal

pub returns-in-Some : goal.returns-in-Some
returns-in-Some g c =
    let e = c.gather-first.ensures.gathers in record {
      ends = (
        e.0,
        ends _ _ _ _ _ _ e.0 e.1 (ap (map (λ p. known_at p.seat)) c.in-Some.ensures.items ∙ map-append (λ p. known_at p.seat) c.pop.new.self.items (c.in-Some.first ∷ [])),
      );
      at_rest = λ none. absurd (
          let n = ap (λ ps. length ps) (sym c.in-Some.ensures.items ∙ none) in
          let m = length-append c.pop.new.self.items (c.in-Some.first ∷ []) in
          let no : ⊥ = omega arith in no);
    }
