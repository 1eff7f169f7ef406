use Rattle.std.proofs.Common.{◌+◌, ◌<◌, sym, ap, subst}
use Rattle.feed_core.proofs.Keeping.{puts_keep, puts_learn}
use Rattle.feed_core.proofs.feed.fill.Goals as goal

pub push_as-requires-clause-rule : goal.push_as-requires-clause-rule
push_as-requires-clause-rule g c =
    let alone = c.loop-put.invariant.1 in
    let part = subst (λ v. 0 < v.parts) (sym alone) c.requires.alone.1 in
    let filling = ap (λ v. v.fills) alone in
    (puts_keep _ _ _ _ part filling (ap (λ v. v.ends) alone) (ap (λ v. v.marks) alone) (sym (ap (λ v. v.put + 1) alone)), puts_learn _ _ part filling)
