use Rattle.std.proofs.Common.{List, [], ◌∷◌, ◌++◌, ◌∙◌, sym, subst}
use Rattle.trie_model.specs.Keys.{Entry}
use Rattle.trie_read.specs.Readings.{IsStanding}
use Rattle.index_tests.proofs.worker.walk.Goals as goal

moved : (old new : List Entry → List Entry → Type 0) (before after : List Entry) → old before after → ((before after : List Entry) (e : Entry) → old before (e ∷ after) → new (before ++ e ∷ []) after) → ((before : List Entry) → old before [] → new before []) → IsStanding new
moved old new before [] s pass stay = (before, ([], stay before s))
moved old new before (e ∷ rest) s pass stay = (before ++ e ∷ [], (rest, pass before rest e s))

pub loop-names-preserved : goal.loop-names-preserved
loop-names-preserved g c =
    let h = c.loop-names.invariant.standing in record {
      same = c.next.ensures.same ∙ c.loop-names.invariant.same;
      standing = subst (λ v. IsStanding (g.V.Reading.stands v c.next.new.iter)) (sym c.next.ensures.same)
          (moved (g.V.Reading.stands c.loop-names.reading c.loop-names.iter) (g.V.Reading.stands c.loop-names.reading c.next.new.iter) h.0 h.1.0 h.1.1 c.next.ensures.step.passed c.next.ensures.step.stays);
    }
