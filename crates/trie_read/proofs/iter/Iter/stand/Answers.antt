use Rattle.std.proofs.Common.{◌∙◌, arith, refl}
use Rattle.trie_read.proofs.SeekLaws.{met_cut, cut_node, cut_leads, stands_here, stands_past, stands_facing}
use Rattle.trie_read.proofs.iter.Iter.stand.Goals as goal

pub pass_last-requires : goal.pass_last-requires
pass_last-requires g c =
    let has = g.C.CellRead.has c.args.cells.now in let h = c.requires.meets in
    cut_node has c.args.key.now c.args.root c.args.self.now.path c.args.met h.0 c.in-Some.first.place h.1 (met_cut has c.args.key.now c.args.root c.args.self.now.path c.args.met h.0 c.in-Some.first h.1 c.in-Some.is)

pub face_first-requires : goal.face_first-requires
face_first-requires g c =
    let has = g.C.CellRead.has c.args.cells.now in let h = c.requires.meets in
    cut_node has c.args.key.now c.args.root c.args.self.now.path c.args.met h.0 c.in-Some.first.place h.1 (met_cut has c.args.key.now c.args.root c.args.self.now.path c.args.met h.0 c.in-Some.first h.1 c.in-Some.is)

pub returns-in-None-clause-split : goal.returns-in-None-clause-split
returns-in-None-clause-split g c version m = stands_here (g.C.CellRead.has c.args.cells.now) c.args.key.now c.args.root c.args.met version _ m c.in-None.is c.requires.root refl

pub returns-then-first-at-clause-split : goal.returns-then-first-at-clause-split
returns-then-first-at-clause-split g c version m =
    let has = g.C.CellRead.has c.args.cells.now in let k = c.args.key.now in let path = c.args.self.now.path in
    stands_past has k c.args.root path c.args.met version c.in-Some.first m c.in-Some.is c.pass_last.new.self c.pass_last.result (let l = c.if-first-at.true in let e = c.at.ensures in omega arith) (c.pass_last.ensures.root ∙ c.requires.root) c.pass_last.ensures.place
    (λ x. c.pass_last.ensures.passed version m.whole x.tree x.before x.after m.trie (cut_leads has k c.args.root path c.args.met version c.in-Some.first.place m x))

pub returns-else-first-at-clause-split : goal.returns-else-first-at-clause-split
returns-else-first-at-clause-split g c version m =
    let has = g.C.CellRead.has c.args.cells.now in let k = c.args.key.now in let path = c.args.self.now.path in
    stands_facing has k c.args.root path c.args.met version c.in-Some.first m c.in-Some.is c.face_first.new.self c.face_first.result (λ less. let l = c.if-first-at.false in let e = c.at.ensures in omega arith) (c.face_first.ensures.root ∙ c.requires.root) c.face_first.ensures.place
    (λ x. c.face_first.ensures.faces version m.whole x.tree x.before x.after m.trie (cut_leads has k c.args.root path c.args.met version c.in-Some.first.place m x))
