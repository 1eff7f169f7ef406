use Rattle.std.proofs.Common.{◌++◌, ◌∙◌, sym, subst}
use Rattle.trie_read.specs.Readings.{AtSplit}
use Rattle.trie_read.specs.Walks.{Meets, StandsBetween}
use Rattle.trie_read.proofs.iter.Iter.seek.Goals as goal

pub stand-requires-clause-meets : goal.stand-requires-clause-meets
stand-requires-clause-meets g c =
    let h = c.requires in
    (h.before ++ h.after, subst (λ s. Meets (g.C.CellRead.has s) c.args.key.now c.in-Some.root c.meet-met.new.self.path c.meet-met.result (h.before ++ h.after)) (sym c.meet-met.ensures.same) (c.meet-met.ensures.meets h.root h.before h.after h.standing))

pub returns-in-Some-clause-split : goal.returns-in-Some-clause-split
returns-in-Some-clause-split g c root before after s =
    let m = subst (λ t. Meets (g.C.CellRead.has t) c.args.key.now c.in-Some.root c.meet-met.new.self.path c.meet-met.result (before ++ after)) (sym c.meet-met.ensures.same) (c.meet-met.ensures.meets root before after s) in
    let at = c.stand.ensures.split (before ++ after) m in
    subst (λ t. AtSplit (StandsBetween (g.C.CellRead.has t) root c.stand.new.self) c.args.key.now (before ++ after)) c.meet-met.ensures.same
    (subst (λ r. AtSplit (StandsBetween (g.C.CellRead.has c.meet-met.new.cells) r c.stand.new.self) c.args.key.now (before ++ after)) (sym c.in-Some.is ∙ s.root_is) at)
