use Rattle.std.proofs.Common.{refl}
use Rattle.trie_model.specs.Shape.{nodes, nodes_within, first_difference}
use Rattle.trie_model.proofs.tests.nodes_of_four_names.Goals as goal

pub returns-clause-nodes : goal.returns-clause-nodes
unfolding nodes nodes_within first_difference
returns-clause-nodes c = refl

pub returns-clause-place : goal.returns-clause-place
unfolding first_difference
returns-clause-place c = refl
