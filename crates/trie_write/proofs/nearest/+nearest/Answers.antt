use Rattle.std.proofs.Common.{◌+◌, sym, subst, rules}
use Rattle.trie_model.specs.Memory.{top_cell, Beneath}
use Rattle.trie_model.specs.Trees.{entries_of}
use Rattle.trie_read.specs.Reads.{IsTop}
use Rattle.trie_model.proofs.NodeLaws.{says_node}
use Rattle.trie_write.specs.Nearness.{Closest}
use Rattle.trie_write.proofs.NearLaws.{way_of, closest_way, closest_here, falls_in}
use Rattle.trie_write.proofs.nearest.+nearest.Goals as goal

pub cell-next-requires : goal.cell-next-requires
cell-next-requires g t c =
    let h = c.requires.stands in
    let b = c.in-Ok.ensures.branch c.args.low h.0 h.1.tree h.1.is in
    let n = way_of (g.C.CellRead.has c.args.cells.now) c.args.key.now c.args.low c.args.node h.0 c.in-Ok.branch c.way.result h.1 b c.requires.key c.way.ensures.present c.way.ensures.absent in
    record { there = (top_cell n.here, n.there) }

pub nearest-requires : goal.nearest-requires
nearest-requires g t c κs within =
    let h = c.requires.stands in
    let b = c.in-Ok.ensures.branch c.args.low h.0 h.1.tree h.1.is in
    let n = way_of (g.C.CellRead.has c.args.cells.now) c.args.key.now c.args.low c.args.node h.0 c.in-Ok.branch c.way.result h.1 b c.requires.key c.way.ensures.present c.way.ensures.absent in
    let f = falls_in (g.C.CellRead.has c.args.cells.now) c.args.low c.args.node h.0 c.in-Ok.branch h.1 b in
    let below : IsTop (g.C.CellRead.has c.cell-next.new.self) (c.in-Ok.branch.offset + 1) c.cell-next.result n.here =
    record { tree = n.deeper; is = c.cell-next.ensures.value (top_cell n.here) n.there; beneath = subst (λ s. Beneath (g.C.CellRead.has s) n.here) (sym c.cell-next.ensures.same) n.beneath } in
    (search (rules, f), (within, ((n.here, below), c.requires.key)))

pub returns-in-Err-clause-value : goal.returns-in-Err-clause-value
returns-in-Err-clause-value g t c x top = closest_here (g.C.CellRead.has c.args.cells.now) c.args.key.now c.args.low c.args.node x c.in-Err.leaf top (c.in-Err.ensures.leaf c.args.low x top.tree top.is)

pub returns-in-Ok-clause-value : goal.returns-in-Ok-clause-value
returns-in-Ok-clause-value g t c x top =
    let b = c.in-Ok.ensures.branch c.args.low x top.tree top.is in
    let n = way_of (g.C.CellRead.has c.args.cells.now) c.args.key.now c.args.low c.args.node x c.in-Ok.branch c.way.result top b c.requires.key c.way.ensures.present c.way.ensures.absent in
    let below : IsTop (g.C.CellRead.has c.cell-next.new.self) (c.in-Ok.branch.offset + 1) c.cell-next.result n.here =
    record { tree = n.deeper; is = c.cell-next.ensures.value (top_cell n.here) n.there; beneath = subst (λ s. Beneath (g.C.CellRead.has s) n.here) (sym c.cell-next.ensures.same) n.beneath } in
    closest_way (g.C.CellRead.has c.args.cells.now) c.args.key.now (c.in-Ok.branch.offset + 1) (c.in-Ok.branch.twigs + c.way.result) x n c.nearest.result
    (subst (λ s. Closest (g.C.CellRead.has s) c.args.key.now (entries_of n.here) c.nearest.result) c.cell-next.ensures.same (c.nearest.ensures.value n.here below))

pub top_of-requires : goal.top_of-requires
top_of-requires g t c = let h = c.requires.stands in says_node c.args.low h.0 c.args.node h.1.tree h.1.is
