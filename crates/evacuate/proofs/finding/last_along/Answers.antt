use Rattle.std.proofs.Common.{◌+◌, refl, sym, ◌∙◌, subst}
use Rattle.trie_model.specs.Extents.{HasItem}
use Rattle.trie_model.specs.Memory.{top_cell}
use Rattle.trie_model.proofs.NodeLaws.{leaf_said}
use Rattle.evacuate.proofs.AlongLaws.{twig_at_descent, fewer_at}
use Rattle.evacuate.proofs.StackLaws.{says, read_is, twig_top, leaf_item}
use Rattle.evacuate.proofs.finding.last_along.Goals as goal

pub loop-descent-init : goal.loop-descent-init
loop-descent-init g c = record { same = refl; here = record { low = 0; c = _; t = c.requires.0; top = c.requires.1; is = c.requires.2 } }

pub cell-requires : goal.cell-requires
cell-requires g c =
    let inv = c.loop-descent.invariant in
    let x = twig_at_descent inv.here c.in-Some.descent.branch c.in-Some.ensures.branch c.in-Some.descent.index c.in-Some.ensures.index in
    record { there = (top_cell x.t, subst (λ s. g.C.CellRead.has s (c.in-Some.descent.branch.twigs + c.in-Some.descent.index) (top_cell x.t)) (sym inv.same) x.there) }

pub of-node-requires : goal.of-node-requires
of-node-requires g c =
    let inv = c.loop-descent.invariant in
    let x = twig_at_descent inv.here c.in-Some.descent.branch c.in-Some.ensures.branch c.in-Some.descent.index c.in-Some.ensures.index in
    says (twig_top g.C.CellRead.has x inv.same c.cell.ensures.same c.cell.ensures.value)

pub loop-descent-smaller : goal.loop-descent-smaller
loop-descent-smaller g c =
    let inv = c.loop-descent.invariant in
    let x = twig_at_descent inv.here c.in-Some.descent.branch c.in-Some.ensures.branch c.in-Some.descent.index c.in-Some.ensures.index in
    fewer_at inv.here c.in-Some.descent.branch c.in-Some.ensures.branch c.in-Some.descent.index c.in-Some.ensures.index
    (read_is (twig_top g.C.CellRead.has x inv.same c.cell.ensures.same c.cell.ensures.value) c.of-node.ensures.back)

pub loop-descent-preserved : goal.loop-descent-preserved
loop-descent-preserved g c =
    let inv = c.loop-descent.invariant in
    let x = twig_at_descent inv.here c.in-Some.descent.branch c.in-Some.ensures.branch c.in-Some.descent.index c.in-Some.ensures.index in
    let top = twig_top g.C.CellRead.has x inv.same (sym inv.same) c.cell.ensures.value in
    record { same = c.cell.ensures.same ∙ inv.same; here = record { low = _; c = _; t = x.t; top = top; is = read_is top c.of-node.ensures.back } }

pub is_item_in-requires : goal.is_item_in-requires
is_item_in-requires g c =
    let inv = c.loop-descent.invariant in
    let x = leaf_item inv.here.top (leaf_said inv.here.t c.in-Leaf.leaf (sym inv.here.is ∙ c.in-Leaf.is)) in
    (x.0, subst (λ s. HasItem (g.C.CellRead.has s) c.in-Leaf.leaf.at c.in-Leaf.leaf.len x.0) (sym inv.same) x.1)
