use Rattle.std.proofs.Common.{◌≡◌, ◌+◌, cond, eqb, length, rules, arith}
use Rattle.zone_answer.proofs.SectionLaws.{counted_more}
use Rattle.zone_answer.proofs.sections.SectionsRowSink.push.Goals as goal

pub returns : goal.returns
returns g c = λ rows counted.
    let n : c.in-Some.count ≡ c.args.self.now.count + length c.args.set.now.records = omega (arith, c.in-Some.ensures, c.from.ensures, c.len.ensures) in
    let a : c.in-Some-checked_add.aliases ≡ c.args.self.now.aliases + cond (eqb c.args.set.now.rtype 5) (length c.args.set.now.records) 0 = omega (arith, c.in-Some-checked_add.ensures, c.aliases_in.ensures) in
    counted_more (g.S.RowSink.has c.args.self.now.rows) (g.S.RowSink.has c.push.new.self) c.args.self.now.count c.args.self.now.aliases c.in-Some.count c.in-Some-checked_add.aliases c.args.self.now.last c.args.owner.now c.args.set.now rows counted
    (c.in_ok-push.ensures rows counted.handed_on) n a (λ none. let k = c.len-2.ensures in search (rules, c.if-len-eq0.false, none, k))
