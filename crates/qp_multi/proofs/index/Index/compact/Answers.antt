use Rattle.std.proofs.Common.{◌∙◌, false, IfOk, IfErr, subst, rules}
use Rattle.qp_multi.specs.Compactions.{Compacts, IsLast}
use Rattle.qp_multi.specs.Passes.{Known, known_at}
use Rattle.qp_multi.proofs.CompactLaws.{compacts_of, last_of, same_table}
use Rattle.qp_multi.proofs.index.Index.compact.Goals as goal

pub returns-clause-compacts : goal.returns-clause-compacts
returns-clause-compacts g c =
    let locked = c.begin-transaction.result.locked.now in
    let lawful = g.L.Law.lawful in
    let before = known_at c.args.pass.now.seat in
    let table = c.args.self.now.shared.table.shared.table_id in
    let key = c.args.self.now.shared.table.shared.key in
    subst (λ (after : Known). IfOk c.commit.result (Compacts lawful table key.passes before after)) (search rules)
    (compacts_of lawful before table false key g.L.Law.most_operations locked.working c.commit.result c.commit.new.self.0.seat c.begin-transaction.ensures.begins
    (λ d e. locked.here d e ∙ same_table g.N.Named.tables locked.place c.args.self.now.place _ _ locked.named c.begin-transaction.ensures.place c.args.self.now.here)
    c.begin-transaction.ensures.kind c.commit.ensures.ends)

pub returns-clause-back : goal.returns-clause-back
returns-clause-back g c =
    let locked = c.begin-transaction.result.locked.now in
    let lawful = g.L.Law.lawful in
    let before = known_at c.args.pass.now.seat in
    subst (λ (after : Known). IfErr c.commit.result (IsLast lawful before after)) (search rules)
    (last_of lawful before locked.working c.commit.result c.commit.new.self.0.seat c.begin-transaction.ensures.begins c.commit.ensures.ends)
