use Rattle.std.proofs.Common.{sym}
use Rattle.std.proofs.lemmas.Result.{IfOk-weaker}
use Rattle.zone_reload.proofs.reload.operations_between.Goals as goal

pub returns-clause-list : goal.returns-clause-list
returns-clause-list g c = IfOk-weaker c.list_between.result _ _ (λ operations is before shown. is before c.args.zone.now.pairs (c.new-before.ensures.shows before shown) (sym c.in_ok-after.ensures)) c.list_between.ensures.list
