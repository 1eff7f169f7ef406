use Rattle.trie_space.proofs.SpaceLaws.{grows_refl}
use Rattle.evacuate.proofs.BeginLaws.{filled_on_none, filled_on_some}
use Rattle.evacuate.proofs.evacuation.begin.Goals as goal

pub returns-in-Some-clause-grows : goal.returns-in-Some-clause-grows
returns-in-Some-clause-grows c = grows_refl _ _

pub returns-in-Some-clause-value : goal.returns-in-Some-clause-value
returns-in-Some-clause-value c = filled_on_some c.args.usage.now c.in-Some.chunk c.in-Some.ensures.some

pub returns-clause-value : goal.returns-clause-value
returns-clause-value c = filled_on_none c.args.usage.now (c.unmixed_bump.ensures.none c.in_default.is)
