use Rattle.trie_model.proofs.KeyLaws.{same_key}
use Rattle.trie_model.proofs.keys_are_read.Goals as goal

pub returns : goal.returns
returns c = same_key
