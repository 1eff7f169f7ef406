use Rattle.std.proofs.Common.{arith}
use Rattle.chunk_sets.proofs.ChunkSetLemmas.{seen, same_words}
use Rattle.chunk_sets.proofs.chunk_set.ChunkSet.copy_from.Goals as goal

pub copy_from_slice-requires : goal.copy_from_slice-requires
copy_from_slice-requires c =
    let e = (same_words (seen c.self.invariant c.self.view_is) (seen c.other.invariant c.other.view_is) c.requires).1 in
    let f = c.deref.ensures.len in
    omega arith

pub invariant_of-self : goal.invariant_of-self
invariant_of-self c =
    let chunks = (same_words (seen c.self.invariant c.self.view_is) (seen c.other.invariant c.other.view_is) c.requires).0 in
    rw (c.copy_from_slice.ensures.items, c.deref.ensures.value, chunks) c.other.invariant

pub returns : goal.returns
returns c =
    let chunks = (same_words (seen c.self.invariant c.self.view_is) (seen c.other.invariant c.other.view_is) c.requires).0 in
    rw (c.copy_from_slice.ensures.items, c.deref.ensures.value, chunks) c.other.view_is
