use Rattle.std.proofs.Common.{ℕ, List, ◌∙◌, sym, subst, arith}
use Rattle.std.proofs.lemmas.List.{with_items_is}
use Rattle.chunk_sets.specs.ChunkSets.{AreWords, Without, flags_of, has}
use Rattle.chunk_sets.proofs.ChunkSetLemmas.{seen, seen_in, same_words, subtracted, subtracted_words}
use Rattle.chunk_sets.proofs.chunk_set.ChunkSet.subtract.Goals as goal

pub clear_bits-requires : goal.clear_bits-requires
clear_bits-requires c =
    let e = (same_words (seen c.self.invariant c.self.view_is) (seen c.other.invariant c.other.view_is) c.requires).1 in
    let f = c.deref.ensures.len in
    let g = c.deref_mut.ensures.len in
    omega arith

pub invariant_of-self : goal.invariant_of-self
invariant_of-self c =
    let mine = seen_in c.deref_mut.result.now (seen c.self.invariant c.self.view_is) c.deref_mut.ensures.value in
    let other = seen_in c.deref.result.now (seen c.other.invariant c.other.view_is) c.deref.ensures.value in
    let new = with_items_is c.self.inside.words c.clear_bits.new.words (c.clear_bits.ensures.len ∙ c.deref_mut.ensures.len) in
    subst (λ (ws : List ℕ). AreWords ws c.self.inside.chunks) (sym new) (subtracted_words mine other c.clear_bits.new.words c.clear_bits.ensures.len c.clear_bits.ensures.left)

pub returns : goal.returns
returns c =
    let mine = seen_in c.deref_mut.result.now (seen c.self.invariant c.self.view_is) c.deref_mut.ensures.value in
    let other = seen_in c.deref.result.now (seen c.other.invariant c.other.view_is) c.deref.ensures.value in
    let new = with_items_is c.self.inside.words c.clear_bits.new.words (c.clear_bits.ensures.len ∙ c.deref_mut.ensures.len) in
    subst (λ (ws : List ℕ). Without c.args.self.now (flags_of ws c.self.inside.chunks) (has c.args.other.now)) (sym new) (subtracted mine other c.clear_bits.new.words c.clear_bits.ensures.len c.clear_bits.ensures.left)
