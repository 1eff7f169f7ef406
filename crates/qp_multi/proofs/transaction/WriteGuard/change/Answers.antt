use Rattle.std.proofs.Common.{◌≡◌, ◌∙◌, Option, Some, sym, subst}
use Rattle.qp_multi.specs.declared.writer.WorkingVersion.{WorkingVersion}
use Rattle.qp_multi.specs.Attempts.{FindsNoRoom}
use Rattle.qp_multi.specs.Bounds.{HasRoom}
use Rattle.qp_multi.specs.WorkingVersions.{Between}
use Rattle.qp_multi.proofs.transaction.WriteGuard.change.Goals as goal

pub returns-clause-full : goal.returns-clause-full
returns-clause-full g c f e =
    let is : c.args.self.now.working ≡ Some c.in-Some.working = sym c.take.ensures.value ∙ c.in-Some.is in
    subst (λ (o : Option WorkingVersion). Between (λ d e. HasRoom d × FindsNoRoom c.args.change.now d e f) o (Some c.change-working.result.0)) (sym is)
    (c.args.self.now.room c.in-Some.working is, c.change-working.ensures.full f e)
