use Rattle.std.proofs.Common.{[], List, sym, subst}
use Rattle.trie_model.specs.Keys.{Entry}
use Rattle.trie_model.specs.Trees.{Tree}
use Rattle.trie_read.specs.declared.iter.Cursor.{Cursor}
use Rattle.trie_read.specs.Walks.{AnyStep, LeadsTo, IsAt}
use Rattle.trie_read.proofs.IterLaws.{leads_to_root, faces_from_start, faces_from_past, stands_facing}
use Rattle.trie_read.proofs.iter.Iter.ahead.Goals as goal

pub returns-in-Start-clause-faces : goal.returns-in-Start-clause-faces
returns-in-Start-clause-faces g c root before after s =
    let has = g.C.CellRead.has c.args.cells.now in
    let at = subst (λ (p : Cursor). IsAt has root c.args.self.now.path p before after) c.in-Start.is s.place in
    faces_from_start has c.in-Some.root root c.args.self.now.root c.face_first.new.self.path c.face_first.result before after s.root_is c.in-Some.is at.1 s.stands
    (λ version whole t b a trie e f h. c.face_first.ensures.faces version whole t b a trie
    (subst (λ (x : Tree). LeadsTo AnyStep has c.args.self.now.path whole x b a) (sym e) (subst (λ (es : List Entry). LeadsTo AnyStep has c.args.self.now.path whole whole es a) (sym f) (subst (λ (es : List Entry). LeadsTo AnyStep has c.args.self.now.path whole whole [] es) (sym h) (leads_to_root has AnyStep c.in-Some.root whole version c.args.self.now.path trie at.0)))))

pub returns-in-Start-clause-stays : goal.returns-in-Start-clause-stays
returns-in-Start-clause-stays g c root before after s =
    let has = g.C.CellRead.has c.args.cells.now in
    let at = subst (λ (p : Cursor). IsAt has root c.args.self.now.path p before after) c.in-Start.is s.place in
    stands_facing has root c.args.self.now c.face_first.new.self before after c.face_first.result s c.face_first.ensures.root c.face_first.ensures.place
    (faces_from_start has c.in-Some.root root c.args.self.now.root c.face_first.new.self.path c.face_first.result before after s.root_is c.in-Some.is at.1 s.stands
    (λ version whole t b a trie e f h. c.face_first.ensures.faces version whole t b a trie
    (subst (λ (x : Tree). LeadsTo AnyStep has c.args.self.now.path whole x b a) (sym e) (subst (λ (es : List Entry). LeadsTo AnyStep has c.args.self.now.path whole whole es a) (sym f) (subst (λ (es : List Entry). LeadsTo AnyStep has c.args.self.now.path whole whole [] es) (sym h) (leads_to_root has AnyStep c.in-Some.root whole version c.args.self.now.path trie at.0))))))

pub returns-then-turn_next-clause-faces : goal.returns-then-turn_next-clause-faces
returns-then-turn_next-clause-faces g c root before after s =
    let has = g.C.CellRead.has c.args.cells.now in
    let at = subst (λ (p : Cursor). IsAt has root c.args.self.now.path p before after) c.in-Past.is s.place in
    faces_from_past has c.in-Some.root root c.args.self.now.root c.args.self.now.path c.turn_next.new.self c.face_first-then-turn_next.new.self.path c.in-Past.field-0 c.face_first-then-turn_next.result before after s.root_is c.in-Some.is at
    (λ whole t b a h. c.if-turn_next.ensures.turned whole t b a h) c.face_first-then-turn_next.ensures.faces

pub returns-then-turn_next-clause-stays : goal.returns-then-turn_next-clause-stays
returns-then-turn_next-clause-stays g c root before after s =
    let has = g.C.CellRead.has c.args.cells.now in
    let at = subst (λ (p : Cursor). IsAt has root c.args.self.now.path p before after) c.in-Past.is s.place in
    stands_facing has root c.args.self.now c.face_first-then-turn_next.new.self before after c.face_first-then-turn_next.result s c.face_first-then-turn_next.ensures.root c.face_first-then-turn_next.ensures.place
    (faces_from_past has c.in-Some.root root c.args.self.now.root c.args.self.now.path c.turn_next.new.self c.face_first-then-turn_next.new.self.path c.in-Past.field-0 c.face_first-then-turn_next.result before after s.root_is c.in-Some.is at
    (λ whole t b a h. c.if-turn_next.ensures.turned whole t b a h) c.face_first-then-turn_next.ensures.faces)
