use Rattle.chunk_sets.proofs.ChunkSetLemmas.{seen, seen_in, first_absent_is}
use Rattle.chunk_sets.proofs.chunk_set.ChunkSet.first_absent.Goals as goal

pub returns : goal.returns
returns c =
    first_absent_is (seen_in c.deref.result.now (seen c.self.invariant c.self.view_is) c.deref.ensures.value)
    c.first_clear_bit.result c.first_clear_bit.ensures.set_before c.first_clear_bit.ensures.clear c.requires
