use Rattle.std.proofs.Common.{◌<◌, sym, ap, subst}
use Rattle.feed_core.proofs.Keeping.{marks_keep, puts_learn}
use Rattle.feed_core.proofs.feed.mark_end.Goals as goal

pub push_as-requires-clause-rule : goal.push_as-requires-clause-rule
push_as-requires-clause-rule g c =
    let alone = c.loop-marks.invariant.1 in
    let part = subst (λ v. 0 < v.parts) (sym alone) c.requires.alone.1 in
    let filling = ap (λ v. v.fills) alone in
    (marks_keep _ _ _ part filling (ap (λ v. v.ends) alone), puts_learn _ _ part filling)
