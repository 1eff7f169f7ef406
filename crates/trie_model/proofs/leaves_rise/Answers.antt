use Rattle.trie_model.proofs.OrderLaws.{rises_tree}
use Rattle.trie_model.proofs.leaves_rise.Goals as goal

pub returns : goal.returns
returns c = rises_tree
