use Rattle.trie_model.proofs.OrderLaws.{one_insertion}
use Rattle.trie_model.proofs.one_place.Goals as goal

pub returns : goal.returns
returns c = one_insertion
