use Rattle.std.proofs.Common.{IfSome, Option, take, subst}
use Rattle.zone_model.specs.Names.{Name, IsName, BeginsWith}
use Rattle.trie_read.proofs.LeafLaws.{has_name, name_is}
use Rattle.trie_read.proofs.leaf.name_at.Goals as goal

pub read_front-len-requires : goal.read_front-len-requires
read_front-len-requires g c = record { there = (c.requires.0.item, c.requires.1.item) }

pub unwrap-requires : goal.unwrap-requires
unwrap-requires g c =
    let h = c.requires in
    let front = c.read_front-len.ensures.front h.0.item h.1.entry.item.octets h.1.item in
    has_name h.0.key h.0.item _ c.from_wire.result h.1.entry.item front h.2 c.from_wire.ensures.none

pub returns-clause-key : goal.returns-clause-key
returns-clause-key g c e leaf tells =
    let front = c.read_front-len.ensures.front e.item leaf.entry.item.octets leaf.item in
    let is_name = subst (λ (r : Option Name). IfSome r IsName) c.unwrap.ensures c.from_wire.ensures.name in
    let found = subst (λ (r : Option Name). IfSome r (BeginsWith (take c.read_front-len.result c.read_front-len.new.out))) c.unwrap.ensures c.from_wire.ensures.found in
    name_is e.key e.item _ c.unwrap.result leaf.entry.item front tells is_name found
