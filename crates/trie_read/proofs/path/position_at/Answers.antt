use Rattle.std.proofs.Common.{arith}
use Rattle.trie_model.proofs.NameLaws.{name_key}
use Rattle.trie_read.proofs.path.position_at.Goals as goal

pub returns-clause-small : goal.returns-clause-small
returns-clause-small c = let p = (name_key c.args.key.now c.len-key.ensures.key).positions c.args.place in let e = c.at.ensures in omega arith
