use Rattle.std.proofs.Common.{◌≡◌, ℕ, Option, Some, sym, subst, rules}
use Rattle.std.specs.Prelude.{IfSome}
use Rattle.qp_multi.specs.declared.writer.WorkingVersion.{WorkingVersion}
use Rattle.qp_multi.specs.Calls.{CommitsOrStays}
use Rattle.qp_multi.proofs.CallLaws.{ends_of}
use Rattle.qp_multi.proofs.transaction.Transaction.commit.Goals as goal

pub returns-clause-ends : goal.returns-clause-ends
returns-clause-ends g c =
    let d = c.in-Some.working in
    let is : c.args.self.locked.now.working ≡ Some d = search rules in
    let seat = c.pass_of.result.seat in
    let told = c.commit-writer in
    let e = told.ensures in
    let most : c.MOST_SPARSE.result ≡ g.K.Kind.MOST_SPARSE = c.MOST_SPARSE.ensures in
    subst (λ (o : Option WorkingVersion). IfSome o (CommitsOrStays g.K.Kind.MOST_SPARSE seat told.result.2)) (sym is)
    (subst (λ (m : ℕ). CommitsOrStays m seat told.result.2 d) most
    (ends_of c.MOST_SPARSE.result seat d told.result.2 told.result.1.place.me.0 c.pass_of.ensures.here c.pass_of.ensures.known e.done e.undone e.spent))
