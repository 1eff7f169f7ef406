use Rattle.std.proofs.Common.{◌/◌, sym, ◌∙◌, arith}
use Rattle.std.proofs.lemmas.Bool.{le-ltb}
use Rattle.std.proofs.lemmas.List.{get_or_past}
use Rattle.chunk_sets.proofs.WordLemmas.{bit_tested, no_bit}
use Rattle.chunk_sets.proofs.ChunkSetLemmas.{seen, get_is}
use Rattle.chunk_sets.proofs.chunk_set.ChunkSet.contains.Goals as goal

pub returns-then-word-len : goal.returns-then-word-len
returns-then-word-len c = bit_tested c.self.inside.words.items c.args.chunk c.index.result.now (omega arith) c.index.ensures ∙ get_is (seen c.self.invariant c.self.view_is) c.args.chunk

pub returns-else-word-len : goal.returns-else-word-len
returns-else-word-len c =
    le-ltb (c.args.chunk / 64) c.len.result c.if-word-len.false
    ∙ sym (no_bit c.self.inside.words.items c.args.chunk (get_or_past c.self.inside.words.items (c.args.chunk / 64) 0 (omega arith)))
    ∙ get_is (seen c.self.invariant c.self.view_is) c.args.chunk
