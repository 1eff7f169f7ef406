use Rattle.std.proofs.Common.{arith}
use Rattle.chunk_sets.proofs.ChunkSetLemmas.{seen, word_within, inserted}
use Rattle.chunk_sets.proofs.chunk_set.ChunkSet.insert.Goals as goal

pub index_mut-requires : goal.index_mut-requires
index_mut-requires c = let w = word_within (seen c.self.invariant c.self.view_is) c.args.chunk c.requires in omega arith

pub invariant_of-self : goal.invariant_of-self
invariant_of-self c = (inserted (seen c.self.invariant c.self.view_is) c.args.chunk c.index_mut.result.now c.requires c.index_mut.ensures.value).sound

pub returns : goal.returns
returns c = (inserted (seen c.self.invariant c.self.view_is) c.args.chunk c.index_mut.result.now c.requires c.index_mut.ensures.value).view
