use Rattle.std.proofs.Common.{◌≡◌, ℕ, List, length, ◌∙◌, sym, subst, arith}
use Rattle.std.proofs.lemmas.List.{with_items_is}
use Rattle.chunk_sets.specs.ChunkSets.{AreWords, Without, flags_of, has}
use Rattle.chunk_sets.proofs.ChunkSetLemmas.{SeenAs, seen, seen_in, same_words, subtracted, subtracted_words}
use Rattle.chunk_sets.proofs.chunk_set.ChunkSet.set_difference.Goals as goal

pub put_difference-requires-clause-all : goal.put_difference-requires-clause-all
put_difference-requires-clause-all c =
    let e = (same_words (seen c.self.invariant c.self.view_is) (seen c.all.invariant c.all.view_is) c.requires.all).1 in
    let f = c.deref.ensures.len in
    let g = c.deref_mut.ensures.len in
    omega arith

pub put_difference-requires-clause-others : goal.put_difference-requires-clause-others
put_difference-requires-clause-others c =
    let e = (same_words (seen c.self.invariant c.self.view_is) (seen c.other.invariant c.other.view_is) c.requires.other).1 in
    let f = c.deref-2.ensures.len in
    let g = c.deref_mut.ensures.len in
    omega arith

all : (c : goal.After-self-1) → SeenAs c.deref.result.now c.self.inside.chunks c.args.all.now
all c =
    let chunks = (same_words (seen c.self.invariant c.self.view_is) (seen c.all.invariant c.all.view_is) c.requires.all).0 in
    subst (λ (n : ℕ). SeenAs c.deref.result.now n c.args.all.now) (sym chunks) (seen_in c.deref.result.now (seen c.all.invariant c.all.view_is) c.deref.ensures.value)

other : (c : goal.After-self-1) → SeenAs c.deref-2.result.now c.other.inside.chunks c.args.other.now
other c = seen_in c.deref-2.result.now (seen c.other.invariant c.other.view_is) c.deref-2.ensures.value

len : (c : goal.After-self-1) → length c.put_difference.new.words ≡ length c.deref.result.now
len c =
    let e = (same_words (seen c.self.invariant c.self.view_is) (seen c.all.invariant c.all.view_is) c.requires.all).1 in
    let f = c.deref.ensures.len in
    let g = c.deref_mut.ensures.len in
    let h = c.put_difference.ensures.len in
    omega arith

pub invariant_of-self : goal.invariant_of-self
invariant_of-self c =
    let new = with_items_is c.self.inside.words c.put_difference.new.words (c.put_difference.ensures.len ∙ c.deref_mut.ensures.len) in
    subst (λ (ws : List ℕ). AreWords ws c.self.inside.chunks) (sym new) (subtracted_words (all c) (other c) c.put_difference.new.words (len c) c.put_difference.ensures.left)

pub returns : goal.returns
returns c =
    let new = with_items_is c.self.inside.words c.put_difference.new.words (c.put_difference.ensures.len ∙ c.deref_mut.ensures.len) in
    subst (λ (ws : List ℕ). Without c.args.all.now (flags_of ws c.self.inside.chunks) (has c.args.other.now)) (sym new) (subtracted (all c) (other c) c.put_difference.new.words (len c) c.put_difference.ensures.left)
