use Rattle.std.proofs.Common.{subst}
use Rattle.trie_read.specs.declared.iter.Cursor.{Cursor}
use Rattle.trie_read.specs.Walks.{IsAt}
use Rattle.trie_read.proofs.IterLaws.{passed_from_facing, stands_past}
use Rattle.trie_read.proofs.iter.Iter.behind.Goals as goal

pub returns-then-turn_back-clause-passed : goal.returns-then-turn_back-clause-passed
returns-then-turn_back-clause-passed g c root before after s =
    let has = g.C.CellRead.has c.args.cells.now in
    let at = subst (λ (p : Cursor). IsAt has root c.args.self.now.path p before after) c.in-Facing.is s.place in
    passed_from_facing has c.in-Some.root root c.args.self.now.root c.args.self.now.path c.turn_back.new.self c.pass_last.new.self.path c.in-Facing.field-0 c.pass_last.result before after s.root_is c.in-Some.is at
    (λ whole t b a h. c.if-turn_back.ensures.turned whole t b a h) c.pass_last.ensures.passed

pub returns-then-turn_back-clause-stays : goal.returns-then-turn_back-clause-stays
returns-then-turn_back-clause-stays g c root before after s =
    let has = g.C.CellRead.has c.args.cells.now in
    let at = subst (λ (p : Cursor). IsAt has root c.args.self.now.path p before after) c.in-Facing.is s.place in
    stands_past has root c.args.self.now c.pass_last.new.self before after c.pass_last.result s c.pass_last.ensures.root c.pass_last.ensures.place
    (passed_from_facing has c.in-Some.root root c.args.self.now.root c.args.self.now.path c.turn_back.new.self c.pass_last.new.self.path c.in-Facing.field-0 c.pass_last.result before after s.root_is c.in-Some.is at
    (λ whole t b a h. c.if-turn_back.ensures.turned whole t b a h) c.pass_last.ensures.passed)
