use Rattle.std.proofs.Common.{◌+◌, ◌-◌, ◌<◌, arith, sym, ◌∙◌, ap, subst, rules}
use Rattle.trie_model.specs.Memory.{top_cell}
use Rattle.trie_read.specs.Reads.{IsTop}
use Rattle.trie_space.specs.Ways.{plug}
use Rattle.trie_write.specs.Descents.{HasWay}
use Rattle.trie_write.proofs.DescentLaws.{known, way_on, top_below}
use Rattle.trie_write.proofs.descend.+end_node.Goals as goal

pub next_descent-requires : goal.next_descent-requires
next_descent-requires g t c = record { way = (c.args.low, c.requires.way) }

pub end_node-requires : goal.end_node-requires
end_node-requires g t c κs within =
    let w = c.requires.way in
    let told = c.in-Some.ensures.on c.args.low w.way w.end w.top w.is_way in
    let k = known w.top w.is_way told.through in
    let f : 504 - (c.in-Some.descent.branch.offset + 1) < 504 - c.args.low = let late = k.late in let early = k.early in omega arith in
    (search (rules, f), (within, subst (λ s. HasWay (g.C.CellRead.has s) c.args.place (c.in-Some.descent.branch.offset + 1) c.args.key.now c.in-Some.descent.next) (sym c.next_descent.ensures.same) (record { way = told.through.rest; end = w.end; top = top_below w.top w.is_way told.through told.next_is; is_way = way_on w.top w.is_way told.through })))

pub returns-in-None-clause-end : goal.returns-in-None-clause-end
returns-in-None-clause-end g t c way end top w = top.is ∙ ap (λ x. top_cell (plug x end)) (c.next_descent.ensures.none c.in-None.is c.args.low way end top w)

pub returns-in-Some-clause-end : goal.returns-in-Some-clause-end
returns-in-Some-clause-end g t c way end top w =
    let told = c.in-Some.ensures.on c.args.low way end top w in
    c.end_node.ensures.end told.through.rest end (subst (λ s. IsTop (g.C.CellRead.has s) (c.in-Some.descent.branch.offset + 1) c.in-Some.descent.next (plug told.through.rest end)) (sym c.next_descent.ensures.same) (top_below top w told.through told.next_is)) (way_on top w told.through)
