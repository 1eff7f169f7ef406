use Rattle.trie_read.proofs.LeafLaws.{says_key, wire_few}
use Rattle.trie_read.proofs.leaf.is_of.Goals as goal

pub begins_with-requires-clause-few : goal.begins_with-requires-clause-few
begins_with-requires-clause-few g c = wire_few c.args.key.now c.wire.result.now c.wire.ensures.key c.wire.ensures.wire

pub begins_with-requires-clause-there : goal.begins_with-requires-clause-there
begins_with-requires-clause-there g c = (c.requires.0.item, c.requires.1.item)

pub returns-clause-value : goal.returns-clause-value
returns-clause-value g c e leaf tells =
    let begins = c.begins_with.ensures.value e.item leaf.entry.item.octets leaf.item in
    let says = says_key c.args.key.now e.key e.item c.wire.result.now leaf.entry.item tells c.wire.ensures.key c.wire.ensures.wire in
    (λ t. says.0 (begins.0 t), λ same. begins.1 (says.1 same))
