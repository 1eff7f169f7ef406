use Rattle.std.proofs.Common.{arith}
use Rattle.chunk_sets.proofs.WordLemmas.{eight_more}
use Rattle.chunk_sets.proofs.chunk_set.after_clear.Goals as goal

pub loop-position-preserved : goal.loop-position-preserved
loop-position-preserved c = record {
  from = omega arith;
  within = omega arith;
  clear = eight_more c.args.words.now c.args.from c.loop-position.position _ (omega arith) c.loop-position.invariant.clear (c.are_clear.ensures.0 c.if-are_clear.true);
}
