use Rattle.std.proofs.Common.{ℕ, List, sym, ap, ◌∙◌, subst, arith}
use Rattle.chunk_sets.specs.ChunkSets.{AreWords, flags_of}
use Rattle.chunk_sets.proofs.ChunkSetLemmas.{cleared, cleared_words}
use Rattle.chunk_sets.proofs.chunk_set.ChunkSet.new.Goals as goal

pub invariant_of-result : goal.invariant_of-result
invariant_of-result c =
    let words = c.in_ok-words.ensures.items_if_clones_equal (λ y e. e) in
    subst (λ (ws : List ℕ). AreWords ws c.args.chunks) (sym words) (cleared_words _ c.args.chunks (let m = c.div_ceil.ensures in omega arith) c.requires)

pub returns : goal.returns
returns c = ap (λ (ws : List ℕ). flags_of ws c.args.chunks) (c.in_ok-words.ensures.items_if_clones_equal (λ y e. e)) ∙ cleared _ c.args.chunks
