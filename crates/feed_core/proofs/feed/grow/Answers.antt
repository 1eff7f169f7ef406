use Rattle.std.proofs.Common.{◌<◌, sym, ap, subst, arith}
use Rattle.feed_core.proofs.Keeping.{grows_keep}
use Rattle.feed_core.proofs.feed.grow.Goals as goal

pub another-nobody-requires-clause-rule : goal.another-nobody-requires-clause-rule
another-nobody-requires-clause-rule c =
    let alone = c.loop.invariant.1 in
    let some : 0 < c.loop.counter = omega arith in
    grows_keep _ _ (subst (λ v. 0 < v.parts) (sym alone) some) (ap (λ v. v.fills) alone)
