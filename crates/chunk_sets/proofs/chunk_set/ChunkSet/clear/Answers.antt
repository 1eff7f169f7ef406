use Rattle.std.proofs.Common.{ℕ, List, false, replicate, ◌∙◌, sym, ap, subst, arith}
use Rattle.chunk_sets.specs.ChunkSets.{AreWords, flags_of}
use Rattle.chunk_sets.proofs.ChunkSetLemmas.{seen, chunks_are, cleared, cleared_words}
use Rattle.chunk_sets.proofs.chunk_set.ChunkSet.clear.Goals as goal

pub invariant_of-self : goal.invariant_of-self
invariant_of-self c =
    let count = c.self.invariant.count in
    subst (λ (ws : List ℕ). AreWords ws c.self.inside.chunks) (sym (c.fill.ensures.items (λ y e. e))) (cleared_words _ c.self.inside.chunks (omega arith) c.self.invariant.few)

pub returns : goal.returns
returns c =
    ap (λ (ws : List ℕ). flags_of ws c.self.inside.chunks) (c.fill.ensures.items (λ y e. e))
    ∙ cleared _ c.self.inside.chunks
    ∙ ap (λ (n : ℕ). replicate n false) (chunks_are (seen c.self.invariant c.self.view_is))
