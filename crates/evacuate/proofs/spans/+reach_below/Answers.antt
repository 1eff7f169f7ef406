use Rattle.std.proofs.Common.{arith, rules}
use Rattle.evacuate.proofs.StackLaws.{says, told_of, item_of, early, cell_there, turn, falls, leaf_item}
use Rattle.evacuate.proofs.spans.+reach_below.Goals as goal

pub of-requires : goal.of-requires
of-requires g t c = says c.requires.top.1

pub cell-twig-requires : goal.cell-twig-requires
cell-twig-requires g t c =
    let b = told_of c.requires.top.1 c.of.ensures.back c.in-Branch.is in
    record { there = cell_there g.C.CellRead.has c.loop-i.invariant.cells c.requires.top.1 b c.loop-i.i (let e = c.twig_count-i-end.ensures in let l = c.loop-i-test.true in omega arith) }

pub reach_below-requires : goal.reach_below-requires
reach_below-requires g t c κs within =
    let b = told_of c.requires.top.1 c.of.ensures.back c.in-Branch.is in
    let n = turn g.C.CellRead.has c.loop-i.invariant.cells c.requires.top.1 b c.loop-i.i (let e = c.twig_count-i-end.ensures in let l = c.loop-i-test.true in omega arith) c.cell-twig.ensures.same c.cell-twig.ensures.value in
    let f = falls c.requires.top.1 b in let d = early c.requires.top.1 b in
    (search (rules, f), (within, (n, omega arith)))

pub reach_item-requires : goal.reach_item-requires
reach_item-requires g t c = record { there = leaf_item c.requires.top.1 (item_of c.requires.top.1 c.of.ensures.back c.in-Leaf.is) }
