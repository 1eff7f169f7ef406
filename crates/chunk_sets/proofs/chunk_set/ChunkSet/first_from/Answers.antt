use Rattle.std.proofs.lemmas.Option.{IfSome_then}
use Rattle.chunk_sets.proofs.ChunkSetLemmas.{seen, seen_in, first_from_is, none_from_is}
use Rattle.chunk_sets.proofs.WordLemmas.{on_none}
use Rattle.chunk_sets.proofs.chunk_set.ChunkSet.first_from.Goals as goal

pub returns-clause-found : goal.returns-clause-found
returns-clause-found c = IfSome_then c.first_bit.result c.first_bit.ensures.found (first_from_is (seen_in c.deref.result.now (seen c.self.invariant c.self.view_is) c.deref.ensures.value) c.args.from)

pub returns-clause-none : goal.returns-clause-none
returns-clause-none c = on_none c.first_bit.result (none_from_is (seen_in c.deref.result.now (seen c.self.invariant c.self.view_is) c.deref.ensures.value) c.args.from) c.first_bit.ensures.none
