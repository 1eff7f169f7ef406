use Rattle.std.proofs.lemmas.Bool.{eq-eqb, eqb-true}
use Rattle.chunk_sets.proofs.WordLemmas.{eight_clear, clear_eight}
use Rattle.chunk_sets.proofs.chunk_set.are_clear.Goals as goal

pub returns : goal.returns
returns c = (λ t. eight_clear c.args.words.now (eqb-true _ _ t), λ z. eq-eqb _ _ (clear_eight c.args.words.now z))
