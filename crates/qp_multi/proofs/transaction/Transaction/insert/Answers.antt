use Rattle.std.proofs.Common.{◌≡◌}
use Rattle.qp_multi.specs.declared.change.TrieChange.TheVariants as change
use Rattle.qp_multi.proofs.WorkLaws.{room_told}
use Rattle.qp_multi.proofs.transaction.Transaction.insert.Goals as goal

pub returns-in-Err-Full-clause-full : goal.returns-in-Err-Full-clause-full
returns-in-Err-Full-clause-full g c f e =
    let same : c.full.result ≡ f = cc in
    room_told (change.Insert c.args.key c.args.item) _ _ c.change.result _ c.in-Err-Full.full c.full.result f c.in-Err-Full.is c.in-Err-Full.field-0-is c.full.ensures same c.change.ensures.full
