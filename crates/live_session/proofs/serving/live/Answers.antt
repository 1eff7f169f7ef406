use Rattle.std.proofs.Common.{[], Err, ap, append-nil, refl, sym}
use Rattle.live_session.specs.Ends.{EndedSo}
use Rattle.live_session.proofs.EndLaws.{nothing_yet}
use Rattle.live_session.proofs.ErrorLaws.{passed}
use Rattle.live_session.proofs.LiveLaws.{early_by}
use Rattle.live_session.proofs.serving.live.Goals as goal

pub returns-clause-ended_so : goal.returns-clause-ended_so
returns-clause-ended_so g c = c.live_on.ensures.ended_so (g.T.Talk.given c.args.talk.now) c.in_ok-taken.ensures.took

pub returns-in_err-intake-clause-ended_so : goal.returns-in_err-intake-clause-ended_so
returns-in_err-intake-clause-ended_so g c =
    ([], sym (append-nil _), passed (EndedSo c.args.asked c.args.origin.now [] _ _ _) c.from_residual.result _ c.from_residual.ensures.1 (nothing_yet c.args.asked c.args.origin.now [] _ _ _ refl))

pub returns-in_err-taken-clause-ended_so : goal.returns-in_err-taken-clause-ended_so
returns-in_err-taken-clause-ended_so g c =
    let e = c.in_err-taken.ensures in
    let m = early_by c.args.asked c.args.origin.now (g.T.Talk.given c.args.talk.now) (g.T.Talk.given c.take_zone.new.talk) (g.T.Talk.ended c.take_zone.new.talk) (g.K.Sink.held c.args.sink.now) c.in_err-taken.field-0.0 e.gave (λ is. e.stops.within (ap Err is)) (λ is. e.stops.too_long (ap Err is)) in
    (m.0, m.1, passed (EndedSo c.args.asked c.args.origin.now m.0 _ _ _) c.from_residual-in_err-taken.result _ c.from_residual-in_err-taken.ensures.1 m.2)
