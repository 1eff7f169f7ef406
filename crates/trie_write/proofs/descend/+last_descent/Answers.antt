use Rattle.std.proofs.Common.{◌+◌, ◌-◌, ◌<◌, arith, sym, subst, rules}
use Rattle.trie_read.specs.Reads.{IsTop}
use Rattle.trie_space.specs.Ways.{plug}
use Rattle.trie_write.specs.Descents.{HasWay}
use Rattle.trie_write.proofs.DescentLaws.{known, way_on, top_below, last_here, last_further}
use Rattle.trie_write.proofs.descend.+last_descent.Goals as goal

pub next_descent-requires : goal.next_descent-requires
next_descent-requires g t c = record { way = (c.args.low, c.requires.way) }

pub last_descent-requires : goal.last_descent-requires
last_descent-requires g t c κs within =
    let w = c.requires.way in
    let told = c.in_ok-descent.ensures.on c.args.low w.way w.end w.top w.is_way in
    let k = known w.top w.is_way told.through in
    let f : 504 - (c.in_ok-descent.descent.branch.offset + 1) < 504 - c.args.low = let late = k.late in let early = k.early in omega arith in
    (search (rules, f), (within, subst (λ s. HasWay (g.C.CellRead.has s) 65535 (c.in_ok-descent.descent.branch.offset + 1) c.args.key.now c.in_ok-descent.descent.next) (sym c.next_descent.ensures.same) (record { way = told.through.rest; end = w.end; top = top_below w.top w.is_way told.through told.next_is; is_way = way_on w.top w.is_way told.through })))

pub returns-in-None-clause-last : goal.returns-in-None-clause-last
returns-in-None-clause-last g t c way end top w =
    let told = c.in_ok-descent.ensures.on c.args.low way end top w in
    last_here told (c.last_descent.ensures.none c.in-None.is told.through.rest end (subst (λ s. IsTop (g.C.CellRead.has s) (c.in_ok-descent.descent.branch.offset + 1) c.in_ok-descent.descent.next (plug told.through.rest end)) (sym c.next_descent.ensures.same) (top_below top w told.through told.next_is)) (way_on top w told.through))

pub returns-in-Some-clause-last : goal.returns-in-Some-clause-last
returns-in-Some-clause-last g t c way end top w =
    let told = c.in_ok-descent.ensures.on c.args.low way end top w in
    last_further told (c.in-Some.ensures.last told.through.rest end (subst (λ s. IsTop (g.C.CellRead.has s) (c.in_ok-descent.descent.branch.offset + 1) c.in_ok-descent.descent.next (plug told.through.rest end)) (sym c.next_descent.ensures.same) (top_below top w told.through told.next_is)) (way_on top w told.through))
