use Rattle.std.proofs.Common.{sym, subst}
use Rattle.trie_model.specs.Extents.{HasItem}
use Rattle.trie_write.proofs.RootLaws.{stands_of}
use Rattle.trie_tests.proofs.tries.holds.Goals as goal

pub read_item-len-requires-clause-there : goal.read_item-len-requires-clause-there
read_item-len-requires-clause-there g c =
    let s = c.requires.trie.stands in
    let v = c.in-Some.ensures.value s.0 (stands_of _ _ _ s.0 c.args.root s.1) s.2 in
    (v.0.item, v.3.entry.item, subst (λ z. HasItem (g.C.CellRead.has z) c.in-Some.leaf.at c.in-Some.leaf.len v.0.item) (sym c.in-Some.ensures.same) v.3.item)
