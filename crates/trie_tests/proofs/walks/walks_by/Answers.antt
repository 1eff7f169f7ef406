use Rattle.std.proofs.Common.{List, [], ◌∷◌, ◌++◌, sym, subst}
use Rattle.trie_model.specs.Keys.{Entry}
use Rattle.trie_read.specs.Readings.{IsStanding}
use Rattle.trie_tests.proofs.walks.walks_by.Goals as goal

moved : (old new : List Entry → List Entry → Type 0) (before after : List Entry) → old before after → ((before after : List Entry) (e : Entry) → old before (e ∷ after) → new (before ++ e ∷ []) after) → ((before : List Entry) → old before [] → new before []) → IsStanding new
moved old new before [] s pass stay = (before, ([], stay before s))
moved old new before (e ∷ rest) s pass stay = (before ++ e ∷ [], (rest, pass before rest e s))

pub loop-item-preserved : goal.loop-item-preserved
loop-item-preserved g c =
    let h = c.loop-item.invariant in
    subst (λ v. IsStanding (g.R.Reading.stands v c.next-key.new.iter)) (sym c.next-key.ensures.same)
    (moved (g.R.Reading.stands c.loop-item.reading c.loop-item.iter) (g.R.Reading.stands c.loop-item.reading c.next-key.new.iter) h.0 h.1.0 h.1.1 c.next-key.ensures.step.passed c.next-key.ensures.step.stays)
