use Rattle.std.proofs.Common.{◌++◌, sym, subst}
use Rattle.trie_model.specs.Order.{chain}
use Rattle.trie_read.specs.Reads.{IsNamed}
use Rattle.trie_read.specs.Above.{AreAncestors, Passes}
use Rattle.trie_read.specs.Walks.{Meets}
use Rattle.trie_read.proofs.MetLaws.{parts, met_room, met_added}
use Rattle.trie_read.proofs.iter.Iter.meet_below.Goals as goal

pub gather-requires-clause-passes : goal.gather-requires-clause-passes
gather-requires-clause-passes g c =
    let h = c.requires.stands in
    let m = subst (λ s. Meets (g.C.CellRead.has s) c.args.key.now c.args.root c.meet-met.new.self.path c.meet-met.result (h.before ++ h.after)) (sym c.meet-met.ensures.same) (c.meet-met.ensures.meets h.root h.before h.after h.standing) in
    let p = parts (g.C.CellRead.has c.meet-met.new.cells) c.args.key.now c.args.root c.meet-met.new.self.path c.meet-met.result (h.before ++ h.after) m in
    (p.before, p.passes)

pub add_met-requires : goal.add_met-requires
add_met-requires g c above =
    let h = c.requires.stands in
    let m = subst (λ s. Meets (g.C.CellRead.has s) c.args.key.now c.args.root c.meet-met.new.self.path c.meet-met.result (h.before ++ h.after)) (sym c.meet-met.ensures.same) (c.meet-met.ensures.meets h.root h.before h.after h.standing) in
    let p = parts (g.C.CellRead.has c.meet-met.new.cells) c.args.key.now c.args.root c.meet-met.new.self.path c.meet-met.result (h.before ++ h.after) m in
    met_room (g.C.CellRead.has c.meet-met.new.cells) c.args.key.now c.args.root c.meet-met.new.self.path c.meet-met.result (h.before ++ h.after) m p c.gather.new.above (c.gather.ensures.above p.before p.passes) above

pub returns-clause-above : goal.returns-clause-above
returns-clause-above g c root before after s =
    let has = g.C.CellRead.has c.args.cells.now in let k = c.args.key.now in
    let m = c.meet-met.ensures.meets root before after s in
    let p = parts has k c.args.root c.meet-met.new.self.path c.meet-met.result (before ++ after) m in
    let gathered = subst (λ t. AreAncestors (IsNamed (g.C.CellRead.has t)) (chain k p.before) c.gather.new.above) c.meet-met.ensures.same
    (c.gather.ensures.above p.before (subst (λ t. Passes (g.C.CellRead.has t) k c.meet-met.new.self.path c.args.root p.before) (sym c.meet-met.ensures.same) p.passes)) in
    met_added has k c.args.root c.meet-met.new.self.path c.meet-met.result (before ++ after) m p c.gather.new.above c.add_met.new.above gathered c.add_met.ensures.above c.add_met.ensures.apart
