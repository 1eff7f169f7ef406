use Rattle.std.proofs.Common.{arith, ap}
use Rattle.trie_write.proofs.ItemLaws.{no_items}
use Rattle.trie_write.proofs.MostLaws.{most, at_most}
use Rattle.trie_write.proofs.size.most_cells.Goals as goal

pub returns : goal.returns
returns c =
    let a = at_most c.args.items.now c.requires in
    let b = c.loop-item.invariant in
    let d = ap most (no_items c.loop-item.rest.now c.in_default.ensures.cases) in omega arith
