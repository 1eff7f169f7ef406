use Rattle.std.proofs.Common.{arith}
use Rattle.trie_size.proofs.SizeLaws.{keys_part, part_there}
use Rattle.trie_size.proofs.size.TrieSize.add.Goals as goal

pub unreachable-requires : goal.unreachable-requires
unreachable-requires c = let (es, e, follows) = c.requires in keys_part follows c.if-self-eq0.false c.parting_of.result c.parting_of.ensures c.in_default.is

pub add_behind-requires-clause-comes : goal.add_behind-requires-clause-comes
add_behind-requires-clause-comes c =
    let (es, e, follows) = c.requires in
    (es, e, follows, part_there follows c.if-self-eq0.false c.parting_of.result c.parting_of.ensures (λ i. omega (arith, c.type_inv.item i)) c.in-Some.parting c.in-Some.is)

pub returns : goal.returns
returns c = λ es e follows.
    c.add_behind.ensures es e follows (part_there follows c.if-self-eq0.false c.parting_of.result c.parting_of.ensures (λ i. omega (arith, c.type_inv.item i)) c.in-Some.parting c.in-Some.is)
