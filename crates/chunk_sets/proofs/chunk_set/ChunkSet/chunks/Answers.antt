use Rattle.chunk_sets.proofs.ChunkSetLemmas.{seen, chunks_are}
use Rattle.chunk_sets.proofs.chunk_set.ChunkSet.chunks.Goals as goal

pub returns : goal.returns
returns c = chunks_are (seen c.self.invariant c.self.view_is)
