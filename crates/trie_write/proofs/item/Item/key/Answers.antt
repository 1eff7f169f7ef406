use Rattle.std.proofs.Common.{List, ℕ, sym, ◌∙◌, subst}
use Rattle.zone_model.specs.Names.{BeginsWith}
use Rattle.trie_write.proofs.ItemLaws.{name_of, some_or, key_in-begins}
use Rattle.trie_write.proofs.item.Item.key.Goals as goal

pub unwrap-requires : goal.unwrap-requires
unwrap-requires c =
    let n = name_of c.args.self.now.octets.items (record { short = c.args.self.now.short; named = c.args.self.now.named; small = c.args.self.now.small }) in
    some_or c.from_wire.result (λ none. c.from_wire.ensures.none none n.name n.is_name (n.rest, c.deref.ensures.value ∙ n.octets_are))

pub returns : goal.returns
returns c =
    let is = rw c.unwrap.ensures at c.from_wire.ensures.name in
    let found = rw c.unwrap.ensures at c.from_wire.ensures.found in
    c.of.ensures ∙ sym (key_in-begins c.args.self.now.octets.items c.unwrap.result is (subst (λ (bytes : List ℕ). BeginsWith bytes c.unwrap.result) c.deref.ensures.value found))
