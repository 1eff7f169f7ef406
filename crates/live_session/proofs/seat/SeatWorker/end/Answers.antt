use Rattle.live_session.proofs.SeatLaws.{end_at, own_index}
use Rattle.live_session.proofs.seat.SeatWorker.end.Goals as goal

pub returns-clause-ends : goal.returns-clause-ends
returns-clause-ends g c = λ o commands os h. end_at h c.measure_last-last.result (c.measure_last-last.ensures.ends h.opened_with o.zone commands os (own_index h.opened_with _ _ h.index) h.stands h.sits)
