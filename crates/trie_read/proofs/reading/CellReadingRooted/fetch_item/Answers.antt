use Rattle.std.proofs.Common.{sym, subst}
use Rattle.trie_model.specs.Extents.{HasItem}
use Rattle.trie_read.proofs.reading.CellReadingRooted.fetch_item.Goals as goal

pub read_item-requires-clause-there : goal.read_item-requires-clause-there
read_item-requires-clause-there g c =
    let h = c.requires.held in
    let found = c.in-Some.ensures.value h.0 h.1.0 h.1.1 in
    let is = found.3 in
    (found.0.item, is.entry.item, subst (λ s. HasItem (g.C.CellRead.has s) c.in-Some.leaf.at c.in-Some.leaf.len found.0.item) (sym c.get.ensures.same) is.item)
