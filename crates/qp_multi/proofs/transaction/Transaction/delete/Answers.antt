use Rattle.std.proofs.Common.{◌≡◌}
use Rattle.qp_multi.specs.declared.change.TrieChange.TheVariants as change
use Rattle.qp_multi.specs.declared.refusal.ChangeRefusal.TheVariants.{NotFound}
use Rattle.qp_multi.proofs.WorkLaws.{refusal_told, room_told}
use Rattle.qp_multi.proofs.transaction.Transaction.delete.Goals as goal

pub returns-in-Err-Refused-clause-deletes : goal.returns-in-Err-Refused-clause-deletes
returns-in-Err-Refused-clause-deletes g c = refusal_told _ _ c.args.self.now.locked.now.working c.change.new.self.working c.change.result c.in-Err-Refused.field-0 NotFound c.in-Err-Refused.is c.in-Err-Refused.field-0-is c.change.ensures.does

pub returns-in-Err-Full-clause-full : goal.returns-in-Err-Full-clause-full
returns-in-Err-Full-clause-full g c f e =
    let same : c.full.result ≡ f = cc in
    room_told (change.Delete c.args.key) _ _ c.change.result _ c.in-Err-Full.full c.full.result f c.in-Err-Full.is c.in-Err-Full.field-0-is c.full.ensures same c.change.ensures.full
