use Rattle.std.proofs.Common.{List, Bool, sym, ◌∙◌, subst}
use Rattle.chunk_cells.specs.Chunks.{IsGiven}
use Rattle.chunk_sets.proofs.FlagLemmas.{get_set}
use Rattle.chunk_usage.proofs.usage.recycling.free_all.Goals as goal

pub free-requires-clause-given : goal.free-requires-clause-given
free-requires-clause-given g c =
    let first = c.in-Some.ensures.found in
    subst (λ (flags : List Bool). IsGiven flags c.in-Some.chunk) (sym c.loop-chunk.invariant.given)
    (get_set c.loop-chunk.given c.in-Some.chunk (c.loop-chunk.invariant.left c.in-Some.chunk first.at_or_after ∙ c.requires.within c.in-Some.chunk first.member))
