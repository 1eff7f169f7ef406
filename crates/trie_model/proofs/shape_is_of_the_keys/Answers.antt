use Rattle.std.proofs.Common.{sym}
use Rattle.trie_model.proofs.ShapeLaws.{nodes_are, cells_are}
use Rattle.trie_model.proofs.shape_is_of_the_keys.Goals as goal

pub returns-clause-nodes : goal.returns-clause-nodes
returns-clause-nodes c low t h = sym (nodes_are low t h)

pub returns-clause-cells : goal.returns-clause-cells
returns-clause-cells c = cells_are
