use Rattle.std.proofs.Common.{◌++◌, sym, subst}
use Rattle.trie_read.specs.Walks.{Meets}
use Rattle.trie_read.proofs.MetLaws.{met_other}
use Rattle.trie_read.proofs.iter.Iter.lookup.Goals as goal

pub stand-requires-clause-meets : goal.stand-requires-clause-meets
stand-requires-clause-meets g c =
    let h = c.requires in
    (h.before ++ h.after, subst (λ s. Meets (g.C.CellRead.has s) c.args.key.now c.in-Some.root c.meet_below-met.new.self.path c.meet_below-met.result (h.before ++ h.after)) (sym c.meet_below-met.ensures.same) (c.meet_below-met.ensures.meets h.root h.before h.after h.standing))

pub returns-in-Some-difference-clause-leaf : goal.returns-in-Some-difference-clause-leaf
returns-in-Some-difference-clause-leaf g c root before after s =
    let has = g.C.CellRead.has c.args.cells.now in let k = c.args.key.now in
    let m = c.meet_below-met.ensures.meets root before after s in
    met_other has k c.in-Some.root c.meet_below-met.new.self.path c.meet_below-met.result (before ++ after) _ m c.in-Some-difference.is
