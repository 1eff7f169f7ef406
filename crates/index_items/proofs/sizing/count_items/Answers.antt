use Rattle.std.proofs.Common.{take}
use Rattle.zone_answer.specs.Standing.{trie_entry}
use Rattle.index_items.proofs.SizingLemmas.{comes_next, one_more}
use Rattle.index_items.proofs.sizing.count_items.Goals as goal

pub add-requires : goal.add-requires
add-requires c =
    let so_far = c.loop-len.invariant in
    let (pair, first, is, short) = c.in-Some.ensures in
    (so_far.done, trie_entry pair, comes_next pair c.loop-len.left c.next.new.self (take c.in-Some.len c.next.new.out) is first so_far c.requires.few c.requires.rising)

pub loop-len-preserved : goal.loop-len-preserved
loop-len-preserved c =
    let so_far = c.loop-len.invariant in
    let (pair, first, is, short) = c.in-Some.ensures in
    let octets = take c.in-Some.len c.next.new.out in
    one_more pair c.loop-len.left c.next.new.self octets is first so_far (c.add.ensures so_far.done (trie_entry pair) (comes_next pair c.loop-len.left c.next.new.self octets is first so_far c.requires.few c.requires.rising))
