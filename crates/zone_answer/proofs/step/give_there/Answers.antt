use Rattle.std.proofs.Common.{◌-◌, length, refl, arith}
use Rattle.zone_model.specs.Versions.{owned}
use Rattle.zone_answer.proofs.CutLaws.{none_to_origin, none_over}
use Rattle.zone_answer.proofs.step.give_there.Goals as goal

pub returns-clause-gives : goal.returns-clause-gives
returns-clause-gives g c zone shows =
    let few = c.is_right_under.ensures c.if-not-is_right_under.false in
    let none = none_over c.args.origin.now c.args.name.now zone (length c.args.origin.now) (length c.args.name.now - 1) refl (omega arith)
    (none_to_origin c.args.origin.now c.args.name.now zone (length c.args.origin.now) refl) in
    let read = c.read_owned-len.ensures.read zone shows in
    c.in_ok-next.ensures zone none (c.of-entry.ensures (owned c.args.name.now zone) read.says) (read.there (omega arith))
